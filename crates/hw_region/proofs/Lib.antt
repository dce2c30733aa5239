pub mod NumberLemmas
pub mod PlaceLemmas
pub mod RegionLemmas
pub mod ZeroLemmas

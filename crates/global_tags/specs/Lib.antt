pub mod GlobalBytes
pub mod GlobalPlaces
pub mod Loading
pub mod SmallGlobals
pub mod Sums

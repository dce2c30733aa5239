pub mod GapLemmas
pub mod HeapBlockLemmas
pub mod HeapLemmas
pub mod LivingSizeLemmas
pub mod StayingBlocks
pub mod TableLemmas

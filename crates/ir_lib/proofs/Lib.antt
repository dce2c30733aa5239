pub mod AccessLemmas
pub mod CompareLemmas
pub mod LengthLemmas
pub mod PushLemmas
pub mod ScanLemmas
pub mod StringLemmas

pub mod GlobalLemmas
pub mod LoadingLemmas

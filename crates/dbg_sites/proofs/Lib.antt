pub mod Bounds
pub mod ChainLemmas
pub mod ChainLinkLaws
pub mod Endings
pub mod FrameChains
pub mod Index
pub mod ScopeChains
pub mod Values

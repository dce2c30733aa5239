pub mod ObjectTagLemmas
pub mod ShadowLemmas
pub mod TagRuleLemmas

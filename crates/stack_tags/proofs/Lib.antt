pub mod FrameLemmas
pub mod LivingSizeLemmas
pub mod StackLemmas
pub mod TaskStackLemmas
pub mod VariableLemmas

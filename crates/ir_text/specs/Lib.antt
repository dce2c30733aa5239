pub mod DataLayout
pub mod Names
pub mod TokenText

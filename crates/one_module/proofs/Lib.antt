pub mod Classes
pub mod Functions
pub mod OneModule

pub mod Given
pub mod Operators
pub mod Scope
pub mod Instructions
pub mod Functions
pub mod Views
pub mod Resolution
pub mod Promises

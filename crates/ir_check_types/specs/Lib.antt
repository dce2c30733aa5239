pub mod Calls
pub mod Instructions
pub mod Listed
pub mod Operands
pub mod Order
pub mod Passed
pub mod Rules
pub mod Signatures

pub mod Addresses
pub mod Answers
pub mod FirstValues
pub mod Offsets
pub mod Operands
pub mod Pieces
pub mod Tables

pub mod Capping
pub mod Circles
pub mod Deepening
pub mod Decimals
pub mod FieldStarts
pub mod Names
pub mod Offsets

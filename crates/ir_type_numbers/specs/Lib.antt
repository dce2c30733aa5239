pub mod Numbering
pub mod SameTypes
pub mod Shapes
pub mod WordMap

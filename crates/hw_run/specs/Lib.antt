pub mod Closing
pub mod RunEnds

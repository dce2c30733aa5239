pub mod Classes
pub mod Front
pub mod Gaps
pub mod Lexes
pub mod Reach
pub mod Cursors

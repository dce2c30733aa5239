pub mod ByteStrings
pub mod Extending
pub mod OffsetTables
pub mod PartsInside
pub mod PiecesInside
pub mod Putting
pub mod TextBytes
pub mod Unfolded

pub mod ItemLaws
pub mod ItemReading
pub mod Items
pub mod Rows

pub mod Calls
pub mod SmallStrings
pub mod Strings

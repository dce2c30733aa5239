pub mod Widths
pub mod Operations
pub mod AddedChecks
pub mod NoneUnbuilt
pub mod BuiltCode

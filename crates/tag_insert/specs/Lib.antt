pub mod Additions
pub mod FieldEnds
pub mod Functions
pub mod InnerSteps
pub mod SmallRegisters
pub mod SmallSteps

pub mod Pieces
pub mod RunSteps
pub mod Jobs
pub mod TestCode

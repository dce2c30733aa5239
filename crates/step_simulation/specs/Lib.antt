pub mod Following
pub mod RegisterSteps

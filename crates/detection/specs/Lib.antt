pub mod Detection
pub mod FollowingRuns
pub mod SmallProgram

pub mod CallStacks
pub mod Frames
pub mod TaskFrames
pub mod TaskStates

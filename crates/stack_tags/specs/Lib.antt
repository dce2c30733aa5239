pub mod FrameSteps
pub mod Frames
pub mod KeptFrames
pub mod SmallStacks

pub mod ChainLinks
pub mod ChainTable
pub mod Cycles
pub mod FrameExamples
pub mod Frames
pub mod Read

pub mod Positions
pub mod RegisterTypes
pub mod Registers
pub mod Resolved
pub mod Variables

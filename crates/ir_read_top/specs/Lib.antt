pub mod Assembly
pub mod Bodies
pub mod Functions
pub mod Globals
pub mod Module
pub mod Texts

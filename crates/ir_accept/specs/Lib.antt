pub mod Typed
pub mod Accepted

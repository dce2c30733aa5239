pub mod GoodFrames
pub mod GoodWorlds
pub mod KnownValues
pub mod Laws
pub mod Typed

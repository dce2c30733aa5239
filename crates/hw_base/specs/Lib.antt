pub mod AddressMap
pub mod Bits
pub mod Bytes
pub mod ByteSwap
pub mod Status
pub mod TaggedAddress

pub mod AddressSpace
pub mod MappedBytes
pub mod MemoryParts
pub mod ObjectMemory
pub mod SmallSpace

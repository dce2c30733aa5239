pub mod Atomics
pub mod TwosComplement
pub mod Binary
pub mod Comparison
pub mod Conversion
pub mod BitIntrinsics
pub mod Overflow

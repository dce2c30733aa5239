pub mod Counters
pub mod Definitions
pub mod Uses
pub mod BodyFaults
pub mod Views

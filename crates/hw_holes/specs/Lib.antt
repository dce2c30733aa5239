pub mod FreeRanges

pub mod HeapBlocks
pub mod HeapSteps
pub mod HeapTables
pub mod HeapView
pub mod SmallHeap

pub mod CallStackLemmas
pub mod FrameLemmas
pub mod TaskChanges
pub mod TaskLemmas
pub mod TurnLemmas
pub mod UnfinishedCounts

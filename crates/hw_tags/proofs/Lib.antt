pub mod LeastPlaceLemmas
pub mod RunLaws
pub mod TagLemmas
pub mod UnfinishedTasks
pub mod WordFacts
pub mod WordLemmas

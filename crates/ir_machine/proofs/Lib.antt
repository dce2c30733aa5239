pub mod StartLemmas
pub mod OneTask
pub mod StepGrowth
mod Growth
mod BlockSteps
mod EntrySteps
mod ProgramLemmas
mod StartedMachines
pub mod TurnSteps
pub mod BuiltCode
pub mod Outcomes
mod MoveLemmas
mod ArgumentLemmas
mod AccessLemmas
mod IndexLemmas
pub mod BlockPlaces
pub mod CodeAt
pub mod RunLaws
pub mod KeptPlaces
pub mod KeptSteps
pub mod EntryPlaces
pub mod CheckedSteps
pub mod OwnSteps
pub mod WholeSteps
pub mod WorldPlaces
pub mod KeptTables
pub mod TableSteps
pub mod TableCalls
pub mod WorldTables

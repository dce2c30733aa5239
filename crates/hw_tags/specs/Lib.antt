pub mod InputState
pub mod LeastPlace
pub mod Options
pub mod Tag
pub mod TaskRuns
pub mod Turn
pub mod Word
pub mod Words

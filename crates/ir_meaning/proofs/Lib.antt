pub mod BirthChangeLaws
pub mod ChangeEndings
pub mod ReadBack
pub mod RunChanges
pub mod RunLaws
pub mod StartLaws
pub mod StepChanges
pub mod StringLaws

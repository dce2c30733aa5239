pub mod BirthsAndDeaths
pub mod Checks
pub mod Images
pub mod Parts
pub mod Relation
pub mod Writes

pub mod ObjectTags
pub mod TagRule

pub mod Judging
pub mod ShownStory
pub mod Story
pub mod StoryFacts
pub mod StoryPrograms
pub mod StoryTags
pub mod Telling
pub mod ToldRun

pub mod BirthPlaces
pub mod BlockPlaces
pub mod GlobalPlacesTold
pub mod Owners
pub mod StoryLaws
pub mod StoryLists
pub mod ToldLaws

pub mod AcceptedIsSmall
pub mod ArgumentPlaces
pub mod CodePlaces
pub mod FieldBounds
pub mod FieldPlaces
pub mod InnerWalks
pub mod SmallFields

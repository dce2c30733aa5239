pub mod AddedLength
pub mod CodePlaces

pub mod BodyLaws
pub mod BodyReading
pub mod Views

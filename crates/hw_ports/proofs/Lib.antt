pub mod FrontAndRest
pub mod TakenText

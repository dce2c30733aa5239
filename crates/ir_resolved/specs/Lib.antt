pub mod Grounds
pub mod Laws

pub mod Digits
pub mod First
pub mod FirstPlaces
pub mod Meant
pub mod OneName
pub mod Orders
pub mod Within

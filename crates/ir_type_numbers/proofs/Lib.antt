pub mod Classing
pub mod Leading
pub mod Sameness
pub mod Words

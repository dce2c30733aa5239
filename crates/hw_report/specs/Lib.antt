pub mod ReportText
pub mod Sites

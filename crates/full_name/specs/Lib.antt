-- which of file and text holds the full name, and where
pub mod FullName

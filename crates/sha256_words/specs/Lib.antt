pub mod Words
pub mod Functions

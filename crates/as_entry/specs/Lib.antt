pub mod Written
pub mod Opened

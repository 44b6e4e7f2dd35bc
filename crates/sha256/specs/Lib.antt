pub mod Constants
pub mod Padding
pub mod Parsing
pub mod Hash
pub mod Inner

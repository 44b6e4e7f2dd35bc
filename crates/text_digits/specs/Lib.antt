pub mod Number
pub mod Digits
pub mod Inner

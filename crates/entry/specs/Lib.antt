pub mod Codes
pub mod Row
pub mod Entry
pub mod Entered
pub mod Inner

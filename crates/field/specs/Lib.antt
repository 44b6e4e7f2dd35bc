pub mod Code
pub mod Letters
pub mod Date
pub mod Rules

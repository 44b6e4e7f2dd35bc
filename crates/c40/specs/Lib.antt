pub mod Values
pub mod Image
pub mod Reader
pub mod Field
pub mod Inner

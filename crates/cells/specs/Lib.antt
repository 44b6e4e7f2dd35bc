pub mod Bits
pub mod Cells

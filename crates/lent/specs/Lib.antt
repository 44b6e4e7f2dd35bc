pub mod Copied
pub mod Octets

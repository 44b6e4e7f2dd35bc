-- a whole seal, its checks in order
pub mod Seal

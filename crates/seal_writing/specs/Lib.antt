-- which headers version 03 carries
pub mod Carried
-- a seal's octets, and what writing it answers and leaves
pub mod Seal
pub mod Inner

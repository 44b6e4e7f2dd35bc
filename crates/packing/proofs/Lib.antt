-- The laws of this crate.
pub mod Packing  -- the loops over units: their codes, and `packed`
pub mod UnitBits  -- units of six bits as bits

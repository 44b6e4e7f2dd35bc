-- The laws of this crate.
pub mod Reading  -- bits, and four characters in four octets, as the code works them out

-- The laws of this crate.
pub mod Filled  -- `filled`: the steps of a loop over all characters
pub mod Short  -- lists of three and of four
pub mod Days  -- a day and its three octets tell each other
pub mod Hexadecimal  -- a number and its two hexadecimal characters tell each other
pub mod Spaced  -- fillers for spaces, and back (`filled-spaced`, `filled-tells`)

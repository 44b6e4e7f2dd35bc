-- what rows of checks before a value decide, and how they are joined
pub mod Rows
-- a walk from place to place is the rows of each
pub mod Places
-- what goes on from a reading may as well go on behind it
pub mod Behind

-- a walk over the elements goes on from the end of each
pub mod Walked
-- the tags of a list, two octets at a time
pub mod Listed
-- which element stands at a place
pub mod Standing
-- list and elements side by side say what the paper's words say
pub mod SideBySide
-- the same, by what a loop finds
pub mod Loops

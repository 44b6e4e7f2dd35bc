-- keys in their order, by which a loop over two of them steps
pub mod Below
-- the entry that stands at a place of a list
pub mod EntryHere
-- a walk over a list goes on from the end of each entry
pub mod Walking
-- what one pass saw, and of a house
pub mod Seeing

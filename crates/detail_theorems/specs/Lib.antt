-- what a file of group 11 is, said with its elements
pub mod Named
-- the checks one after the other
pub mod DetailChecks
-- when the file holds the full name
pub mod NameHeld
-- a stretch within what was lent, and the range that a name is from
pub mod Range
-- files that are accepted, and some that are not
pub mod Examples

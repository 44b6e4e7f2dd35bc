-- what a whole file is, said with its tree
pub mod Whole
-- the checks one after the other
pub mod InsideChecks
-- files that are accepted, and some that are not
pub mod Examples

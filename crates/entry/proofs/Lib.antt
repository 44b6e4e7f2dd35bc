-- The laws of this crate.
pub mod Coded  -- characters and their codes, list by list
pub mod Sexes  -- the codes of sexes tell them
pub mod Values  -- what a house and a sound record say fits the row; the length of their entry
pub mod Placing  -- the units of an entry, from the fields of a record
pub mod EntryUnits  -- the octets of the units of an entry are those of the entry
-- what was read is entered exactly when it passed, house and record are sound and there is room (`entered`, `entered_only`)
pub mod Entered

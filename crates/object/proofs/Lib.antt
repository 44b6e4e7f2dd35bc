-- where an entry and its parts stand
pub mod EntryPlaces
-- a walk over entries goes on from the end of each
pub mod EntriesWalked
-- what was seen of the entries decides as their list does
pub mod EntriesByTable
-- entries whose numbers are within 1 to 16 and differ are at most sixteen (`sixteen_entries`)
pub mod SixteenEntries

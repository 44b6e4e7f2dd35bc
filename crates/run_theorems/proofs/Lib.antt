-- DEMAND 3: an entry that stands in a run is read as its house and record (`decoded`)
pub mod WrittenThenRead
-- DEMAND 3: what the reader passes over is the entry of what it answers (`passed_over`)
pub mod ReadThenWritten
-- DEMAND 3: the key (`key_exactly`)
pub mod Keys
-- DEMAND 3: a list is read back from its octets, and no two lists give the same (`read_joined`, `joined_tells`)
pub mod ListReadBack
-- what one answer of the reader says of the entry at its place
pub mod OneAnswer
-- DEMAND 3: any octets are read up to their end or to the first place where no entry stands (`read_any`)
pub mod AnyRun
-- DEMAND 3: records that agree but for the data have one key and two entries (`data_apart`, `data_told`)
pub mod OtherData
-- DEMAND 3: 283 + 6(n + m) bits rounded up (`entry_length`, `entry_formula`)
pub mod EntryLengths
-- the expected digit where what was read is entered (`entered_told`)
pub mod Expected
-- SEPARATION: keys of accepted calls, and a house's own lines (`entries_apart`, `own_lines`)
pub mod Separation
-- the number that is told where what was read is entered (`zero_allowed`, `seventeen_exactly`, `sixteen_exactly`)
pub mod NumbersEntered
-- DEMAND 1 of a run, of the calls that write and of what C receives (`run_steps`, `entered_answers`, `answers_in_c`)
pub mod EveryCall

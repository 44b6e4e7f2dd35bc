-- demand 3: lists, their octets, and what the reading of any octets says
pub mod Runs
-- demand 3: what two entries with one key have in common
pub mod Keys
-- the expected digit where what was read is entered
pub mod Expected
-- the lines of a house
pub mod Separation
-- DEMAND 1, in what each call answers
pub mod EveryCall
-- when 0 is told where what was read is entered, and what is left
pub mod Entered

-- No words of the paper: what the code answers on its way.
-- the first of some places, and how many they are
pub mod Tally
-- what is left to do behind the file's own head
pub mod Behind

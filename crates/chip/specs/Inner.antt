-- No words of the paper: what the code answers on its way.
-- stage 5 with a table of where each group's digest begins
pub mod ByTable
-- what is left to do from one step of the code on
pub mod Onward
-- what looking for a group's file finds
pub mod Found

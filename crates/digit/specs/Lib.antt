-- the check digit, in document 01's words
pub mod Check
-- no words of the paper: a sum under way
pub mod Inner

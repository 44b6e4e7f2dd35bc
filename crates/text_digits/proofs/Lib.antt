-- The laws of this crate.
pub mod EachDigit  -- what every refusal of the check digits has
pub mod Numbers  -- what a number leaves in its room, and where a long one ends
pub mod Walks  -- the order in which the code joins the check digits is the text order
pub mod Written  -- a digit that was worked out, against its place

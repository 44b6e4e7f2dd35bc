pub mod Listing  -- the list so far and what is left of it: one pair more, one that is passed over

-- No words of the paper: what the code answers on its way.
-- what the list and the elements say, from place to place
pub mod Places
-- the reading as the code joins it
pub mod Onward

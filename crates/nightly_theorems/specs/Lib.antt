-- which lists are accepted, and where one is refused
pub mod Listed
-- the stretches of houses
pub mod Stretches

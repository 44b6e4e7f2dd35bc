-- a seal that is written, what is asked of it, and what reading it gives
pub mod Written
-- the checks one after the other
pub mod WriteChecks
-- what the C call promises
pub mod Promised

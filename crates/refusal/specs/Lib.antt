pub mod Length
pub mod Numbers
-- what a call that writes answers and leaves
pub mod Output
pub mod Outcome
-- the numbers of each call
pub mod Calls

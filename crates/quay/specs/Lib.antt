-- what a passenger shows, the call that reads it, and what the call answers and leaves
pub mod Shown
-- calls one after the other, and what they leave
pub mod Session

-- No words of the paper: what the promises of the code between are stated in.
pub mod Puts  -- parts put one after the other into a range

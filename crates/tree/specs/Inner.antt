-- No words of the paper: what the promises of the walkers are stated in.
-- how many elements were passed, and where the last of them ends
pub mod Passed

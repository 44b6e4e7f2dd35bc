-- No words of the paper: what the promises of the code between are stated in.
pub mod Counts  -- the length that was told

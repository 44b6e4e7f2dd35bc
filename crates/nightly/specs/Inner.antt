-- No words of the paper: what the promises of the code between are stated in.
pub mod Seen  -- what one pass over a list saw

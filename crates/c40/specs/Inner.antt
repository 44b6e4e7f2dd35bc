-- No words of the papers: what the promises of the code between are stated in.
pub mod Left  -- what is read from a place on
pub mod Imaged  -- what is written of any octets

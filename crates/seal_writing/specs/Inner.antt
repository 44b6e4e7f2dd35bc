-- No words of the papers: what the promises of the code between are stated in.
pub mod Fit  -- whether a text was written
pub mod Parts  -- a seal part by part, as it is put into a range

-- No words of the paper: what the promises of the code between are stated in.
pub mod Thirds  -- a field's characters by thirds
pub mod Covered  -- what the composite covers, part by part

-- No words of the paper: what the code answers on its way.
-- what was seen of the entries, walked once
pub mod Seen

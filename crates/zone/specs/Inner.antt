-- No words of the paper: what the promises of the code between are stated in.
pub mod Places  -- where each part begins, as a row of constants
pub mod Tests  -- a test of octets as a table of its answers

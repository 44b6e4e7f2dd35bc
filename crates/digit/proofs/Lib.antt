pub mod Sums  -- the weighted sum: its bounds, its weights, and pieces joined
pub mod ByThirds  -- a field by thirds: its steps, and that weighed it is the weighted sum
pub mod Counting  -- the loop that works out what each character counts
pub mod CoveredSum  -- the sum over what the composite covers, part by part
pub mod Written  -- the digit as a character, the digit of fillers, and that it tells the check

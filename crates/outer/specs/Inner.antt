-- No words of the paper: what the code answers on its way.
-- what is left to do from one step of the code on
pub mod Onward

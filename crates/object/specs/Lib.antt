-- stage 4: the security object
pub mod Object
-- no words of the paper: what the code answers on its way
pub mod Inner

-- stages 1 and 2: size, and the outer walk
pub mod Outer
-- no words of the paper: what the code answers on its way
pub mod Inner

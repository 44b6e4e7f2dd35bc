-- the tags of group 11
pub mod Tags
-- group 11: its list, and the elements that it names
pub mod Details
-- no words of the paper: what the code answers on its way
pub mod Inner

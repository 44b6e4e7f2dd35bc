-- the count of templates
pub mod Templates
-- a group's file, whole
pub mod Inside
-- no words of the paper
pub mod Inner

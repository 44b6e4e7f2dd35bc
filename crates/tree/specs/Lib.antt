-- tags of one octet and of two
pub mod Tag
-- a group's file as a tree: its octets, its depth, how many elements it has
pub mod Tree
-- reading it
pub mod Reading
-- no words of the paper
pub mod Inner

-- tags that stand at a place
pub mod Tags
-- the places of elements with a tag: the pass over them, step by step
pub mod Tallies
-- the tags of groups, and a file by its own head
pub mod Heads

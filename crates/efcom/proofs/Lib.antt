-- which of the two versions is said
pub mod Versions
-- what was answered is told by what the papers say of it
pub mod Told
-- the laws by which the tag list is walked
pub mod TagList
-- a list of known tags without a repeat has at most fifteen (`fifteen_tags`)
pub mod FifteenTags

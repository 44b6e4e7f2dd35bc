-- a tag and its octets tell each other
pub mod TagOctets
-- where the encoding of a tree stands, the tree is read
pub mod TreeBack
-- where a tree is read, its encoding stands
pub mod TreeRead
-- what a tree that is read has at its place, and what a list begins with
pub mod Views
-- the templates by their places are those of the tree
pub mod Counts
-- a list opens with a count exactly where its octets are 02 01 n
pub mod Opening
-- the count of templates is right exactly where the tree's is
pub mod Templates
-- accepted exactly when the octets are a whole file's tree (`inside_exactly`), no other tree has them (`no_other_tree`), and the
-- number is that tree's (`number_exactly`)
pub mod Acceptance
-- the first failing check (`inside_refused_exactly`)
pub mod FirstFailing
-- DEMAND 1: every refusal's number and place (`look_told`)
pub mod Refusals
-- no second answer (`only_look`, `only_list`)
pub mod OneAnswer
-- the demands are not empty (`examples_hold`)
pub mod NotEmpty

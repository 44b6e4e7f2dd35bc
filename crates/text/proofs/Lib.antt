-- The laws of this crate.
pub mod Walks  -- the order in which the code joins the fields' checks is the text order
pub mod EachCheck  -- what every refusal of a text has
pub mod Ends  -- where a name and the issuer's own data end, in their room and in the text
pub mod Within  -- its place is no further than the end

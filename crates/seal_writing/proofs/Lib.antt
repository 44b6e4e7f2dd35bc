-- The laws of this crate.
-- the places that each field of a header has
pub mod Shapes
-- the text of a record of TD2
pub mod Texts
-- parts put one behind the other
pub mod PartsPut
-- and of a whole seal
pub mod WholePut
-- what a header has that is carried (`carried-apart`), and that its parts are the octets of its seal (`parts-seal`)
pub mod PartsJoined
-- what was judged and written is what the definition says
pub mod Answers

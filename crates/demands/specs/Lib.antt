-- the starred examples, as one table
pub mod Examples
-- what C receives of the calls that read
pub mod InC
-- exactly one entry, of a house and a sound record
pub mod OneEntry
-- the length and the next offset that an answer gives
pub mod Given
-- what the C calls that are lent octets promise
pub mod Promised
-- what the C calls on a list promise
pub mod ListPromised

-- The laws of this crate.
pub mod InPlace  -- parts in their places: their fields, their length, and one part more
pub mod Further  -- the further characters of a sound record's number have room
pub mod OneMarked  -- one character marked is a part of one character put
pub mod AfterPut  -- nothing put in the place of a part, and one character more
pub mod Puts  -- parts put one after the other are the text
pub mod CompositePlace  -- the composite digit stands outside of what it covers
pub mod Fitted  -- a text written to the front of a range

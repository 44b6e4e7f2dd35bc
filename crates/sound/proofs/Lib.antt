pub mod Rooms  -- the room of each field, and the characters behind the ninth
pub mod NoData  -- a record without data: its places are fillers
pub mod Solid  -- characters that are no fillers
pub mod SoundRecord  -- a sound record taken apart

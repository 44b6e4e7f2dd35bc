-- The laws of this crate.
pub mod UnitsRead  -- the characters of an entry, unit by unit
pub mod RecordRead  -- the record that an entry says, from its units
pub mod ValuesBack  -- a record and the values of its row tell each other
pub mod Onward  -- what one answer of the reader says of its place
pub mod Lengths  -- the lengths of a record that is read fit an octet

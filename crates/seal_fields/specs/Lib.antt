-- a calendar day in three octets
pub mod Day
-- hexadecimal characters
pub mod Hex
-- spaces for fillers
pub mod Spaces

-- The laws of this crate.
pub mod Gather  -- `put` and `gathered`: numbers written in bits, one after the other, by eights
pub mod BitsOfOctets  -- a range of octets as its bits
pub mod OctetsOfBits  -- bits gathered by eights
pub mod Shifts  -- `bits_at`: up to sixteen bits are a field of two octets
pub mod Fitting  -- what fits a row
pub mod Putting  -- the values of a row put into bits
pub mod ReadingBack  -- the values of a row read from bits, and put again
pub mod Alike  -- ranges that begin alike, and no bit set
pub mod RowOctets  -- the octets of a row: read back, whole, and the first cells

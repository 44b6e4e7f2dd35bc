-- lists: parts, runs of one element, several stores
pub mod ListLaws
-- numbers and words as octets
pub mod OctetLaws
-- the words of a block's schedule
pub mod ScheduleLaws
-- the ring of sixteen that holds them
pub mod RingLaws
-- rounds along lists of constants and words
pub mod RoundLaws
-- the padded end of a message
pub mod PaddingLaws
-- the blocks of a padded message
pub mod ChainLaws
-- a digest has 32 octets
pub mod DigestLength

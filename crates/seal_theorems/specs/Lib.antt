-- what a sound seal is, said with encoders
pub mod Sealed
-- the least seal around a text
pub mod Around
-- the checks one after the other
pub mod SealChecks
-- what stands where a row that decodes passes
pub mod RowsStand
-- the examples of the papers
pub mod Examples
-- the seal that source 002 prints, and what is read of it
pub mod PrintedSeal
-- where a seal's zones stand, and that the digit of a refusal 9 is the text's
pub mod Expected
-- what the C call promises
pub mod Promised

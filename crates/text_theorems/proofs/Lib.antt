-- a walk over parts passes exactly where every part does
pub mod PartByPart
-- how a number stands: short, or long with so many further characters
pub mod NumberSpan
-- the parts that every form has
pub mod Common
-- the first refusal of a list of checks
pub mod FirstOf
-- the rows of a text's checks decide as the reader's checks do
pub mod TextRows
-- DEMAND 2: the answer is the first failing check (`refused_exactly`); a refusal gives the blank record
pub mod FirstFailing
-- DEMAND 2: the digit that a refusal 9 carries (`expected_exactly`, `digit_told`, `nine_tells`)
pub mod Expected
-- the code stands first, and tells a visa
pub mod CodeTold
-- what the text of a record holds, part by part
pub mod TextOfRecord
-- the composite's digit, of a text that passed and of one that was written
pub mod CompositeKept
-- DEMAND 2: accepted exactly when every rule is kept (`accepted_exactly`)
pub mod Acceptance
-- DEMAND 2: the record of an accepted text holds its fields, and is sound (`kept_and_sound`)
pub mod RecordOfText
-- visas as text only: elsewhere every answer is as it was (`no_visa_same`, `visa_elsewhere`)
pub mod Visas
-- the issuer's own data in the text of a record
pub mod OwnData
-- DEMAND 2: every sound record is written as a text that reads back as that record (`text_read_back`)
pub mod RoundTrip

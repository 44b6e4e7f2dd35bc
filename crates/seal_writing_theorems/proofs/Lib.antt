-- a header that is carried keeps the rules of one that is read, and is read as itself
pub mod Headers
-- DEMANDED: accepted exactly when every rule is kept (`accepted_exactly`); what is written is a sound seal (`written_sealed`),
-- reads back as what was given (`written_read_back`, `written_signature`), and tells header, record and signature
-- (`written_tells`); what is signed does not depend on the signature (`signed_octets_lem`)
pub mod RoundTrip
-- DEMAND 1: the numbers and places of every refusal, and what stays (`seal_answers`, `written_answers`); no second answer
-- (`only_seal_written`)
pub mod EveryCall
-- the answer is the first failing check (`write_refused_exactly`)
pub mod FirstFailing
-- something is accepted
pub mod Witness
-- AT THE C BORDER: demand 1 of every call (`write_seal_answers`), 0 exactly where a seal is written and what stands in the range
-- then (`write_seal_exactly`, `write_seal_leaves`), and that no digit is told (`write_seal_no_digit`)
pub mod Promised

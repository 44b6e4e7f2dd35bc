-- REQUEST 2026-09: with the two tests every stage answers as today (`efcom_same`, `object_same`, `presentation_same`)
pub mod TwoTests
-- and so do the calls of a C host (`call_same`, `call_leaves_same`)
pub mod TwoTestsInC
-- REQUEST 2026-04: presentations accepted before keep their record (`accepted_kept`), no `0107` one refused before is accepted
-- now (`refused_still`), and one with object version 0 keeps its whole answer (`older_same`)
pub mod Versions
-- and so do the calls of a C host (`accepted_call`, `older_call`)
pub mod VersionsInC

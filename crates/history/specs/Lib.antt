-- request 2026-09: today's reader with the two tests that nothing reaches put back
pub mod TwoTests
-- request 2026-04: the reader as it was, and what a `0107` presentation is
pub mod Versions

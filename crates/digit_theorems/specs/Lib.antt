-- when check digits may be added: the laws of request 2026-11
pub mod Joined
-- which slips a check digit finds: the laws of request 2026-12
pub mod Slips
-- the undetected pairs, as a computed list
pub mod Pairs
-- the same in characters
pub mod Printed

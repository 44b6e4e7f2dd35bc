-- keys that rise: behind a key, and with one more
pub mod Rising
-- an entry that stands in a list is read, and what is read stands there
pub mod Reading
-- accepted exactly when (`count_exactly`), refused exactly where (`refused_exactly`), no other lines (`no_other_lines`)
pub mod Acceptance
-- the houses of a list stand together
pub mod Houses
-- the stretch of a house is that of its own entries (`stretch_exactly`, `cut_exactly`)
pub mod Stretches
-- SEPARATION: stretches of two houses (`stretches_apart`), and of all (`stretches_all`)
pub mod Separation
-- DEMAND 1: every refusal's number and place (`list_told`)
pub mod Refusals
-- no second answer (`only_look_over`)
pub mod OneAnswer
-- the demands are not empty (`two_accepted`, `exchanged_refused`, `twice_refused`, `octet_refused`)
pub mod NotEmpty

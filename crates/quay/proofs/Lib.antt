-- DEMAND 3, the key over every mixture of what is read (`shown_key`)
pub mod KeyOfShown
-- SEPARATION over every mixture of calls (`calls_apart`, `houses_never_meet`, `own_entry`)
pub mod Separation
-- SEPARATION of a whole session: its run is read back, and under a house are exactly that house's calls (`session_read`,
-- `session_own`)
pub mod Session
-- DEMAND 1, the length of every answer of reading a seal (`read_seal_gives`)
pub mod SealGives

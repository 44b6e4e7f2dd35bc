-- a walk over files goes on from the end of each
pub mod FilesWalked
-- both stages are what stands before the files, and then these
pub mod BeforeFiles
-- no two answers are told alike (`walked_tells`)
pub mod Told

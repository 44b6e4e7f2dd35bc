-- what a reading from place to place gives
pub mod Read
-- tags as named
pub mod Tags
-- elements: encoding and reading
pub mod Element
-- where elements stand as their lengths say
pub mod Places
-- a stretch of lent octets
pub mod Cut
-- the versions of the LDS
pub mod Versions
-- no words of the paper
pub mod Inner

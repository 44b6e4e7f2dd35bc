-- the head of an element, by the octets that stand first
pub mod Heads
-- elements end behind their place and within what holds them, and there are no more of them than octets
pub mod Bounds
-- what the walkers go by
pub mod Walking

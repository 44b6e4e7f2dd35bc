-- a reading step by step: what it gives, and what its steps must have given
pub mod Joined
-- an element ends behind its place and within what holds it
pub mod Past
-- walks by a number of steps: any that is enough gives the same
pub mod Steps
-- the reader takes exactly what the encoder gives (`reads`, `back`, `prefix_free`)
pub mod Encoded
-- an element that stands at a place: read there, its parts and places
pub mod Standing
-- stretches
pub mod Stretches
-- what every refusal of steps in their order has (`EachRead`)
pub mod Each
-- no two answers are told alike (`read_tells`)
pub mod Told
-- the element that stands at a place, whatever its tag
pub mod Whatever
-- elements as their lengths say, and the places of those one behind the other
pub mod Onward

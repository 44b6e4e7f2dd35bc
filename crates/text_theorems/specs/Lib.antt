-- demand 2: what it is to keep every rule
pub mod Accepted
-- demand 2: the checks part by part, a row for each sentence
pub mod TextChecks
-- demand 2: the checks one after the other
pub mod Ordered
-- what the record of an accepted text holds
pub mod Held
-- the digit that a refusal 9 carries
pub mod Expected

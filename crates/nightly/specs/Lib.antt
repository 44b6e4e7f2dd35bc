-- keys and their order
pub mod Key
-- the list, its entries and those of a house
pub mod List
-- no words of the paper
pub mod Inner

-- elements said of the octets alone
pub mod Standing

-- The laws of this crate, for every crate above.
pub mod Bools  -- what a test that joins others by `&&` or `||` says of them
pub mod Lists  -- parts of a list, and a range that is copied to or filled
pub mod Changed  -- a range whose every element is changed
pub mod Copies  -- what a range holds after a copy to a place
pub mod Tests  -- the set `tests`, that closes a function of tests on numbers
pub mod Comparing  -- octets that are compared, and an octet among others
pub mod Marks  -- a table with a mark for each number of a list
pub mod Left  -- how many of a list are left when others are taken
pub mod Absent  -- what is in no row of a `match`

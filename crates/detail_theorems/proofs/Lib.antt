-- a list's tags and its octets tell each other
pub mod ListOctets
-- where elements are read, their encodings stand
pub mod ElementsRead
-- where encodings of elements stand, they are read
pub mod ElementsBack
-- accepted exactly when the octets are those of a list and its elements (`details_exactly`), and what is told of an element is
-- where it stands (`detail_told`)
pub mod Acceptance
-- what stands there (`detail_there`), or nothing (`detail_none`); no other elements have these octets (`no_other_elements`)
pub mod Values
-- the first failing check (`details_refused_exactly`)
pub mod FirstFailing
-- DEMAND 1: every refusal's number and place (`detail_refusal`)
pub mod Refusals
-- where the full name stands, by cases (`name_in_file`, `name_in_text`, `name_nowhere`)
pub mod FullName
-- what is told stands in what was lent (`detail_within`, `name_within_range`)
pub mod Within
-- no second answer (`only_detail`)
pub mod OneAnswer
-- the demands are not empty (`examples_hold`)
pub mod NotEmpty

-- the starred examples hold (`starred`)
pub mod Starred
-- no second answer meets a promise (`only-..`)
pub mod NoSecondAnswer
-- the record of an accepted presentation is sound (`presentation_sound`)
pub mod PresentationRecord
-- the expected digit at the C border (`text_digit_told`, `presentation_digit_told`)
pub mod ExpectedInC
-- no second answer: elements, outer parts, EF.COM, the object (`only_element` and the others)
pub mod OneElement
-- the demands are not empty: a text, a sound record and a presentation that are accepted (`T3-accepted` and the others)
pub mod NotEmpty
-- the numbers that C receives are those of the answer
pub mod NumbersInC
-- AT THE C BORDER, a text or a presentation read: when 0, what is left, when 17 (`read_text_exactly` and the others)
pub mod ReadInC
-- AT THE C BORDER, the next entry: 0 and 0 where none is left (`none_left`)
pub mod NextInC
-- AT THE C BORDER, the inside of a file: 0 and how many elements (`octets_looked`), or the first failing check (`look_refused`)
pub mod LookInC
-- AT THE C BORDER, a detail of group 11: its stretch (`octets_detailed`, `detail_stretch`), or the first failing check
-- (`detail_refused`)
pub mod DetailInC
-- AT THE C BORDER, the full name: which of file and text holds it, and its octets (`name_octets`, `name_from_file`, ..)
pub mod NameInC
-- AT THE C BORDER, a text written: what is left (`write_text_leaves`)
pub mod WriteInC
-- a text written and then read: the entry again (`octets_again`)
pub mod AgainInC
-- opening an entry (`entry_opened`)
pub mod OpenInC
-- AT THE C BORDER, what is shown of octets, of every call (`read_presentation_exactly`, `write_text_exactly`, `open_exactly` and
-- the others)
pub mod Promised
-- the same of group 11 and the full name (`read_detail_exactly`, `full_name_of_file`, ..)
pub mod PromisedNames
-- what every answer of a call that writes has (`written_each`, `digest_each`)
pub mod Writers
-- AT THE C BORDER, number 0 is never a refusal (`read_text_not_zero` and the others)
pub mod NotZero
-- DEMAND 1, the length and the next offset of every answer (`read_text_gives`, `next_gives` and the others)
pub mod Given
-- the numbers of enums that have none of their own, by who asks (`no_form_read` and the others)
pub mod WhoAsks
-- DEMAND 1, call by call (`text_reads`, `read_text_answers` and the others)
pub mod EveryCall
-- AT THE C BORDER, a list looked over: 0 and how many entries (`octets_counted`), or where it fails (`list_refused`)
pub mod ListInC
-- AT THE C BORDER, the promises on a list (`look_over_exactly`, `house_entries_own`, `house_entries_apart` and the others)
pub mod ListPromised

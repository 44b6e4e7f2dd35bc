-- The laws of the alphabet, the forms and the record.
pub mod Classes  -- digits, letters and fillers by their numbers
pub mod Coding  -- characters and their codes tell each other; the table by codes
pub mod Every  -- `every`: the steps of a loop over all characters, and lists joined and cut
pub mod First  -- `first`: what the library's `position` says of it, and where it finds none
pub mod AllForms  -- what holds of each form of the list of all forms holds of every form
pub mod Parts  -- the parts of a text: each has its own rank, no two overlap, and what rows say of them
pub mod Widths  -- the widths that every form shares, and that every part lies within the text
pub mod Own  -- where the issuer's own data stand
pub mod Padded  -- `padded`: copies over fillers, and trailing fillers that make no difference
pub mod Filled  -- fields filled up with fillers, character by character
pub mod Trimmed  -- `trimmed_length`: one character more, its bound, and lists joined and cut
pub mod Fields  -- the characters of a text found in its fields
pub mod FormTold  -- the form that a text tells, and the one that a number in an entry tells
pub mod Octets  -- lent octets are below 256
pub mod Holding  -- what a record holds, and the record of what is held

-- By which numbers each call refuses, a list for each: document 01, "Refusal numbers" and "What the server lends and gets"; 19
-- document 02, 2026-04, of a seal 2026-08 and 2026-13, of a group's file 2026-10, of group 11 2026-01, and of a list of entries
-- 2026-14. A new cause moves the lists of the calls that tell it.
use Rattle.std.specs.Prelude.{ℕ, Bool, false, not, ◌&&◌, ◌||◌, List, [], ◌∷◌, eqb}
use Rattle.refusal.specs.Numbers.{Why, by, expecting}

-- ---- what is read

-- the fields of a text
abbrev pub of_fields : List ℕ
of_fields = 3 ∷ 4 ∷ 5 ∷ 6 ∷ 7 ∷ 8 ∷ []

-- its length, its characters, its check digits, its fields
abbrev pub of_text : List ℕ
of_text = 1 ∷ 2 ∷ 9 ∷ of_fields

-- its elements and files, whether its versions agree, and its size and text
abbrev pub of_presentation : List ℕ
of_presentation = 10 ∷ 11 ∷ 12 ∷ 13 ∷ 14 ∷ 15 ∷ 19 ∷ of_text

-- its size, the check digits of its text, its own parts, the fields of its text; not 2, since C40 has no character that a text
-- cannot have
abbrev pub of_seal : List ℕ
of_seal = 1 ∷ 9 ∷ 24 ∷ 25 ∷ 26 ∷ 27 ∷ of_fields

-- its elements, how deep they stand, and the count of its templates
abbrev pub of_inside : List ℕ
of_inside = 10 ∷ 21 ∷ 22 ∷ []

-- its elements, and whether they are those that its list names
abbrev pub of_details : List ℕ
of_details = 10 ∷ 20 ∷ []

abbrev pub of_run : List ℕ
of_run = 18 ∷ []

-- its entries, and whether their keys rise
abbrev pub of_list : List ℕ
of_list = 18 ∷ 23 ∷ []

-- a C call that reads also enters what was read: by 17 where the house is none, by 16 where the range is too short
abbrev pub entered : (reader : List ℕ) → List ℕ
entered reader = 16 ∷ 17 ∷ reader

-- ---- what is written

abbrev pub of_entry : List ℕ
of_entry = 16 ∷ 17 ∷ []

abbrev pub of_text_writer : List ℕ
of_text_writer = 16 ∷ 17 ∷ []

-- a C host lends it an entry, so that it never has to tell of an unsound record
abbrev pub of_text_writer_in_c : List ℕ
of_text_writer_in_c = 16 ∷ 18 ∷ []

-- the record, what a seal cannot carry, the range
abbrev pub of_seal_writer : List ℕ
of_seal_writer = 17 ∷ 28 ∷ 16 ∷ []

-- a C host lends it an entry, and the record of an entry may be of another form than TD2
abbrev pub of_seal_writer_in_c : List ℕ
of_seal_writer_in_c = 18 ∷ of_seal_writer

abbrev pub of_digest : List ℕ
of_digest = 1 ∷ 16 ∷ []

-- ---- whether a refusal is by one of them

abbrev pub is_of : List ℕ → ℕ → Bool
is_of [] n = false
is_of (m ∷ ms) n = eqb n m || is_of ms n

-- 9 is told with its digit, and no other
abbrev pub tells : List ℕ → Why → Bool
tells numbers (by n) = is_of numbers n && not (eqb n 9)
tells numbers (expecting digit) = is_of numbers 9

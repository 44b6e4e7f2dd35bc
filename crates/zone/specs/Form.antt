-- The forms: document 01, "The text", Layouts and Composite, and document 02, request 2026-05, for visas. Every offset follows
-- from the widths, in text order.
use Rattle.std.specs.Prelude.{Option, Some, None}
use Rattle.std.specs.Prelude.{ℕ, ◌+◌, ◌-◌, ◌*◌, Bool, true, false, cond, not, ◌&&◌, ◌||◌}
use Rattle.std.specs.Prelude.{List, [], ◌∷◌, ◌++◌, map, length, take, drop, get_or, eqb, ltb}
use Prim.Native.Char as char
use Rattle.zone.specs.declared.form.Form.{Form}
use Rattle.zone.specs.declared.form.Form.TheVariants.{Td1, Td2, Td3, MrvA, MrvB}
use Rattle.zone.specs.declared.form.Kind.{Kind}
use Rattle.zone.specs.declared.form.Kind.TheVariants.{Card, Passport, Visa}
use Rattle.zone.specs.declared.form.Source.{Source}
use Rattle.zone.specs.declared.form.Source.TheVariants.{Alone, GroupOne, Seal}
use Rattle.zone.specs.Alphabet.{is_letter, is_filler}
use Rattle.zone.specs.Rooms.{nine}
use Rattle.zone.specs.Part.{Part, code, state, number, number_check, optional, birth, birth_check, sex, expiry, expiry_check}
use Rattle.zone.specs.Part.{nationality, optional2, composite, name, personal, personal_check, same}

infix 70 ◌of◌
-- a part and its width in characters
pub data Cell : Type 0 where
  ◌of◌ : Part → ℕ → Cell

-- a line, and the places in it from the one to the other, counted from 1
pub data Run : Type 0 where
  run : (which from to : ℕ) → Run

-- what document 01 says of a form
pub record Row : Type 0 where
  -- the characters of a text, and of each of its lines
  pub total : ℕ
  pub line : ℕ
  -- the parts in text order
  pub layout : List Cell
  -- the longest number
  pub longest : ℕ
  -- Composite: what its digit covers, nothing where there is none
  pub covers : List Run
  -- whose code it has
  pub kind : Kind
  -- its number in an entry (document 01, "The entry")
  pub entered : ℕ
  -- where the issuer's own data stand: "TD3's fourteen characters, TD2's and the visas' optional field, TD1's field in the second
  -- line" (document 02, request 2026-06)
  pub own_part : Part

unfoldable pub row : Form → Row
row Td1 = record {
  total = 90;
  line = 30;
  layout =
      code of 2 ∷ state of 3 ∷ number of 9 ∷ number_check of 1 ∷ optional of 15
      ∷ birth of 6 ∷ birth_check of 1 ∷ sex of 1 ∷ expiry of 6 ∷ expiry_check of 1
      ∷ nationality of 3 ∷ optional2 of 11 ∷ composite of 1
      ∷ name of 30 ∷ [];
  longest = 22;
  covers = run 1 6 30 ∷ run 2 1 7 ∷ run 2 9 15 ∷ run 2 19 29 ∷ [];
  kind = Card;
  entered = 0;
  own_part = optional2;
}
row Td2 = record {
  total = 72;
  line = 36;
  layout =
      code of 2 ∷ state of 3 ∷ name of 31
      ∷ number of 9 ∷ number_check of 1 ∷ nationality of 3
      ∷ birth of 6 ∷ birth_check of 1 ∷ sex of 1 ∷ expiry of 6 ∷ expiry_check of 1
      ∷ optional of 7 ∷ composite of 1 ∷ [];
  longest = 14;
  covers = run 2 1 10 ∷ run 2 14 20 ∷ run 2 22 35 ∷ [];
  kind = Card;
  entered = 1;
  own_part = optional;
}
row Td3 = record {
  total = 88;
  line = 44;
  layout =
      code of 2 ∷ state of 3 ∷ name of 39
      ∷ number of 9 ∷ number_check of 1 ∷ nationality of 3
      ∷ birth of 6 ∷ birth_check of 1 ∷ sex of 1 ∷ expiry of 6 ∷ expiry_check of 1
      ∷ personal of 14 ∷ personal_check of 1 ∷ composite of 1 ∷ [];
  longest = 9;
  covers = run 2 1 10 ∷ run 2 14 20 ∷ run 2 22 43 ∷ [];
  kind = Passport;
  entered = 2;
  own_part = personal;
}
-- "The first line has code, state and name as in TD3 and TD2; the second has number 9, check, nationality 3, birth 6, check, sex,
-- valid-until 6, check, then optional data of 16 or 8, with no composite and no long numbers"
row MrvA = record {
  total = 88;
  line = 44;
  layout =
      code of 2 ∷ state of 3 ∷ name of 39
      ∷ number of 9 ∷ number_check of 1 ∷ nationality of 3
      ∷ birth of 6 ∷ birth_check of 1 ∷ sex of 1 ∷ expiry of 6 ∷ expiry_check of 1
      ∷ optional of 16 ∷ [];
  longest = 9;
  covers = [];
  kind = Visa;
  entered = 3;
  own_part = optional;
}
row MrvB = record {
  total = 72;
  line = 36;
  layout =
      code of 2 ∷ state of 3 ∷ name of 31
      ∷ number of 9 ∷ number_check of 1 ∷ nationality of 3
      ∷ birth of 6 ∷ birth_check of 1 ∷ sex of 1 ∷ expiry of 6 ∷ expiry_check of 1
      ∷ optional of 8 ∷ [];
  longest = 9;
  covers = [];
  kind = Visa;
  entered = 4;
  own_part = optional;
}

-- all of them; visas first, since what selects a visa is no other form's where visas may stand
unfoldable pub forms : List Form
forms = MrvA ∷ MrvB ∷ Td1 ∷ Td2 ∷ Td3 ∷ []

abbrev pub total : Form → ℕ
total f = (row f).total

abbrev pub longest : Form → ℕ
longest f = (row f).longest

abbrev pub layout : Form → List Cell
layout f = (row f).layout

-- the parts in text order
unfoldable pub part_of : Cell → Part
part_of (x of w) = x

unfoldable pub parts : Form → List Part
parts f = map part_of (layout f)

-- the characters before a part
unfoldable pub start_in : List Cell → Part → ℕ
start_in [] x = 0
start_in (y of w ∷ cells) x = cond (same x y) 0 (w + start_in cells x)

unfoldable pub start : Form → Part → ℕ
start f x = start_in (layout f) x

-- the characters of a part, 0 where the form does not have it
unfoldable pub width_in : List Cell → Part → ℕ
width_in [] x = 0
width_in (y of w ∷ cells) x = cond (same x y) w (width_in cells x)

unfoldable pub width : Form → Part → ℕ
width f x = width_in (layout f) x

-- whether the form has it
abbrev pub has : Form → Part → Bool
has f x = ltb 0 (width f x)

-- the first form of a list that passes a test
unfoldable pub first_form : (Form → Bool) → List Form → Option Form
first_form p [] = None
first_form p (f ∷ fs) = cond (p f) (Some f) (first_form p fs)

unfoldable pub is_visa : Kind → Bool
is_visa Card = false
is_visa Passport = false
is_visa Visa = true

-- where a text stands: alone, in group 1, in a seal
unfoldable pub is_alone : Source → Bool
is_alone Alone = true
is_alone GroupOne = false
is_alone Seal = false

-- the forms that may stand there: visas "as text only"
unfoldable pub may_stand : Source → Form → Bool
may_stand source f = not (is_visa (row f).kind) || is_alone source

-- "Code V and a letter or `<` selects them"
unfoldable pub is_visa_code : ℕ → ℕ → Bool
is_visa_code a b = eqb a (char.code "V") && (is_letter b || is_filler b)

abbrev pub selects_visa : List ℕ → Bool
selects_visa t = is_visa_code (get_or t 0 0) (get_or t 1 0)

-- whether a text is one of a form where it stands: its length tells, and of a visa its code too
unfoldable pub is_of : Source → List ℕ → Form → Bool
is_of source t f = eqb (length t) (total f) && (may_stand source f && (not (is_visa (row f).kind) || selects_visa t))

-- the form of a text, of those that may stand there
unfoldable pub form_of : Source → List ℕ → Option Form
form_of source t = first_form (λ f. is_of source t f) forms

-- and which a number in an entry
unfoldable pub form_by : ℕ → Option Form
form_by n = first_form (λ f. eqb n (row f).entered) forms

-- the characters that stand in a text for a part
unfoldable pub field : Form → Part → List ℕ → List ℕ
field f x t = take (width f x) (drop (start f x) t)

-- ---- the issuer's own data: document 02, request 2026-06

abbrev pub own_part : Form → Part
own_part f = (row f).own_part

-- the characters before them in their part, where the number has n: "For a long TD2 number it is what follows the filler after
-- the number's check"
unfoldable pub before_own : Form → (n : ℕ) → ℕ
before_own f n = cond (same (own_part f) optional && ltb nine n) (n - nine + 2) 0

-- the place that is left for them
unfoldable pub own_place : Form → (n : ℕ) → ℕ
own_place f n = width f (own_part f) - before_own f n

-- the same counted in the text, from 0
pub record Piece : Type 0 where
  pub start : ℕ
  pub width : ℕ

unfoldable pub piece_of : Form → Run → Piece
piece_of f (run which from to) = record { start = (which - 1) * (row f).line + (from - 1); width = to + 1 - from }

unfoldable pub pieces : Form → List Piece
pieces f = map (piece_of f) (row f).covers

unfoldable pub cut : List ℕ → Piece → List ℕ
cut t s = take s.width (drop s.start t)

-- joined in that order
unfoldable pub joined_cuts : List ℕ → List Piece → List ℕ
joined_cuts t [] = []
joined_cuts t (s ∷ ss) = cut t s ++ joined_cuts t ss

unfoldable pub covered : Form → List ℕ → List ℕ
covered f t = joined_cuts t (pieces f)

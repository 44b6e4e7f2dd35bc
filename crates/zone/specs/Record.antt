-- The record: document 01, "A record holds form, code, state, number, nationality, birth, sex, expiry, name", and document 02,
-- request 2026-06, "The record gains it", the issuer's own data; and the blank record of "Refusal numbers" (TD1, fillers, lengths
-- 0). Its fields are parts of a text.
use Rattle.std.specs.Prelude.{ℕ, suc, ◌-◌, Bool, cond, ◌&&◌, List, [], ◌∷◌, ◌++◌, length, take, get_or, replicate, eqb, ltb}
use Rattle.zone.specs.declared.form.Form.{Form}
use Rattle.zone.specs.declared.form.Form.TheVariants.{Td1}
use Rattle.zone.specs.declared.record.Record.{Record}
use Rattle.zone.specs.Alphabet.{filler, is_filler}
use Rattle.zone.specs.Part.{Part, code, state, number, nationality, birth, sex, expiry, name, own}
use Rattle.zone.specs.Rows.{PartRow, ◌is◌, in_rows}
use Rattle.zone.specs.Rooms.{code_room, state_room, date_room, number_room, name_room, own_room}

-- the length without trailing fillers
unfoldable pub trimmed_length : List ℕ → ℕ
trimmed_length [] = 0
trimmed_length (c ∷ s) = cond (is_filler c && eqb (trimmed_length s) 0) 0 (suc (trimmed_length s))

-- trailing fillers are dropped
unfoldable pub trimmed : List ℕ → List ℕ
trimmed s = take (trimmed_length s) s

-- filled up with fillers to n places
unfoldable pub padded : ℕ → List ℕ → List ℕ
padded n s = take n s ++ replicate (n - length s) filler

-- the fields of one width in every form, each with that width; number, name and the issuer's own data are not among them
unfoldable pub plain : List (PartRow ℕ)
plain =
    code is code_room ∷ state is state_room ∷ nationality is state_room ∷ birth is date_room ∷ sex is 1 ∷ expiry is date_room ∷ []

-- how many characters, 0 of a part that is not plain
abbrev pub plain_room : Part → ℕ
plain_room x = in_rows 0 plain x

abbrev pub is_plain : Part → Bool
is_plain x = ltb 0 (plain_room x)

-- the characters that a record holds of each part
unfoldable pub held_rows : Record → List (PartRow (List ℕ))
held_rows r =
    code is r.code
    ∷ state is r.state
    ∷ number is take r.number_len r.number
    ∷ nationality is r.nationality
    ∷ birth is r.birth
    ∷ sex is (r.sex ∷ [])
    ∷ expiry is r.expiry
    ∷ name is take r.name_len r.name
    ∷ own is take r.own_len r.own
    ∷ []

abbrev pub held : Record → Part → List ℕ
held r x = in_rows [] (held_rows r) x

-- the record that holds these, with a filler in every place past them
unfoldable pub holding : Form → (Part → List ℕ) → Record
holding f g = record {
  form = f;
  code = padded code_room (g code);
  state = padded state_room (g state);
  number = padded number_room (g number);
  number_len = length (g number);
  nationality = padded state_room (g nationality);
  birth = padded date_room (g birth);
  sex = get_or (g sex) 0 filler;
  expiry = padded date_room (g expiry);
  name = padded name_room (g name);
  name_len = length (g name);
  own = padded own_room (g own);
  own_len = length (g own);
}

unfoldable pub blank : Record
blank = holding Td1 (λ x. [])

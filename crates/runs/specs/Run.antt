-- Reading a run: document 01, "A run is read entry by entry, each with the offset of the next", and 18 of "Refusal numbers".
use Rattle.std.specs.Prelude.{Option, Some, None, Result, Ok, Err}
use Rattle.refusal.specs.declared.Refusal.{Refusal}
use Rattle.std.specs.Prelude.{ℕ, ◌+◌, Bool, cond, ◌&&◌, List, [], ◌∷◌, map, eqb, ltb, length, drop, get_or}
use Rattle.refusal.specs.Numbers.{Why, by, why_of}
use Rattle.zone.specs.Part as text
use Rattle.zone.specs.Part.{number, sex}
use Rattle.zone.specs.Rows.{◌is◌, in_rows}
use Rattle.zone.specs.declared.form.Form.{Form}
use Rattle.zone.specs.declared.record.Record.{Record}
use Rattle.zone.specs.Codes.{character_of}
use Rattle.zone.specs.Record.{blank, trimmed, holding}
use Rattle.sound.specs.Sound.{is_sound}
use Rattle.cells.specs.Cells.{rounded_up, values_at, row_end, is_whole_row}
use Rattle.zone.specs.Form.{form_by}
use Rattle.entry.specs.Codes.{sex_by}
use Rattle.entry.specs.Entry.{is_house}
use Rattle.entry.specs.Row.{Part, house, form, field, row, cells, value_of}
use Rattle.runs.specs.declared.run.Standing as code

-- where a run goes on: at the next offset, at its end, or not at all
pub data Onward : Type 0 where
  next : ℕ → Onward
  none : Onward
  refused : (why : Why) (place : ℕ) → Onward

-- what stands at an offset, in the paper's terms
pub record Standing : Type 0 where
  pub onward : Onward
  pub house : ℕ
  pub kept : Record

-- the paper's number and values of each case; but for an entry house 0 and the blank record
abbrev pub standing_of : Result (Option code.Standing) Refusal → Standing
standing_of (Ok (Some s)) = record { onward = next s.next; house = s.house; kept = s.kept }
standing_of (Ok None) = record { onward = none; house = 0; kept = blank }
standing_of (Err r) = record { onward = refused (why_of r.cause) r.place; house = 0; kept = blank }

-- what the values of a row say of a part: one number, or characters
abbrev pub number_of : List (List ℕ) → Part → ℕ
number_of vs x = get_or (value_of vs x) 0 0

abbrev pub characters_of : List (List ℕ) → Part → List ℕ
characters_of vs x = map character_of (value_of vs x)

-- what the values of a row say of a field: the number without the fillers that fill it up
unfoldable pub said_of : List (List ℕ) → text.Part → List ℕ
said_of vs x =
    in_rows (characters_of vs (field x))
    (number is trimmed (characters_of vs (field number)) ∷ sex is (sex_by (number_of vs (field sex)) ∷ []) ∷ []) x

-- the record that the values of a row say
unfoldable pub record_of : Form → List (List ℕ) → Record
record_of f vs = holding f (said_of vs)

-- what the bits of a range say
abbrev pub values_in : List ℕ → List (List ℕ)
values_in s = values_at (cells row) s 0

unfoldable pub house_in : List ℕ → ℕ
house_in s = number_of (values_in s) house

unfoldable pub form_in : List ℕ → Option Form
form_in s = form_by (number_of (values_in s) form)

unfoldable pub record_in : Form → List ℕ → Record
record_in f s = record_of f (values_in s)

-- the octets that they take
unfoldable pub size_in : List ℕ → ℕ
size_in s = rounded_up (row_end (cells row) s 0)

-- not cut off, and the spare bits zero
unfoldable pub is_whole : List ℕ → Bool
is_whole s = is_whole_row (cells row) s

unfoldable pub is_entry : Form → List ℕ → Bool
is_entry f s = is_house (house_in s) && (is_whole s && is_sound (record_in f s))

-- 18, at the start of that entry: the blank record, house 0
unfoldable pub no_entry : ℕ → Standing
no_entry at = record { onward = refused (by 18) at; house = 0; kept = blank }

unfoldable pub entry_by : Option Form → List ℕ → ℕ → Standing
entry_by (Some f) s at =
    cond (is_entry f s) (record { onward = next (at + size_in s); house = house_in s; kept = record_in f s }) (no_entry at)
entry_by None s at = no_entry at

-- at the end the answer is that none is left; an offset past the end is 18 at that offset
unfoldable pub read_entry : List ℕ → ℕ → Standing
read_entry w at =
    cond (eqb at (length w)) (record { onward = none; house = 0; kept = blank })
    (cond (ltb (length w) at) (no_entry at) (entry_by (form_in (drop at w)) (drop at w) at))

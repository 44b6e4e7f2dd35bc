-- The entry: document 01, "The entry, most significant bit first", and what writing one answers and leaves.
use Rattle.std.specs.Prelude.{Result}
use Rattle.refusal.specs.declared.Refusal.{Refusal}
use Rattle.std.specs.Prelude.{ℕ, Bool, ◌&&◌, List, [], ◌∷◌, map, ◌≡◌, leb}
use Rattle.refusal.specs.Outcome.{unless}
use Rattle.refusal.specs.Length.{Length, length_of}
use Rattle.refusal.specs.Output.{write_answer, write_out}
use Rattle.zone.specs.declared.record.Record.{Record}
use Rattle.zone.specs.Codes.{code_of}
use Rattle.zone.specs.Part.{number, sex}
use Rattle.zone.specs.Rows.{◌is◌, in_rows}
use Rattle.zone.specs.Record.{held}
use Rattle.sound.specs.Sound.{is_sound}
use Rattle.cells.specs.Cells.{octets_of, row_bits, rounded_up}
use Rattle.entry.specs.Codes.{form_code, sex_code}
use Rattle.entry.specs.Row.{Part, house, form, field, Place, ◌of◌, row, cells}

-- what a cell says: one number, or the codes of a field's characters; the number is filled up with `<`
unfoldable pub said : (house : ℕ) → Record → Part → List ℕ
said h r house = h ∷ []
said h r form = form_code r.form ∷ []
said h r (field x) = in_rows (map code_of (held r x)) (number is map code_of r.number ∷ sex is (sex_code r.sex ∷ []) ∷ []) x

abbrev pub values : List Place → (house : ℕ) → Record → List (List ℕ)
values [] h r = []
values (x of c ∷ ps) h r = said h r x ∷ values ps h r

-- and zero bits to the next byte
unfoldable pub entry_of : ℕ → Record → List ℕ
entry_of h r = octets_of (cells row) (values row h r)

-- the lengths of the counted cells, in the row's order
abbrev pub lengths : Record → List ℕ
lengths r = r.own_len ∷ r.name_len ∷ []

-- with a name of n characters and data of m "283 + 6(n + m) bits rounded up" to bytes
unfoldable pub size : Record → ℕ
size r = rounded_up (row_bits (cells row) (lengths r))

-- 1-32,767
unfoldable pub is_house : ℕ → Bool
is_house h = leb 1 h && leb h 32767

-- 17 for a house or a record that is not sound, then 16 for an output that is too short; else the entry is written
unfoldable pub entry_answer : ℕ → Record → List ℕ → Length
entry_answer h r out = write_answer (unless (is_house h && is_sound r) 17 0) (size r) out

-- a refusal changes no octet, a success those of the entry and no others
unfoldable pub entry_out : ℕ → Record → List ℕ → List ℕ
entry_out h r out = write_out (unless (is_house h && is_sound r) 17 0) (size r) (entry_of h r) out

-- the whole promise: the answer, and what the output holds afterwards
pub record Writes (h : ℕ) (r : Record) (out after : List ℕ) (w : Result ℕ Refusal) : Type 0 where
  pub answer : length_of w ≡ entry_answer h r out
  pub output : after ≡ entry_out h r out

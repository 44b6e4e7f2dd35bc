-- The record that an entry says, from its units.
use Prim.Native.Nat.{ℕ, ◌+◌, ◌≤◌, ◌<◌}
use mathlib.Core.Path.{◌≡◌, refl, ap, sym, ◌∙◌}
use mathlib.Core.Bool.{true}
use mathlib.Core.List.{List}
use native.Mathlib.Omega.{arith}
use lib.ListN.{length, take, drop, replicate}
use Rattle.zone.specs.Part as text
use Rattle.zone.specs.Alphabet.{filler}
use Rattle.zone.specs.Record.{padded, trimmed_length}
use Rattle.zone.specs.Rooms.{code_room, state_room, date_room, number_room, name_room, own_room}
use Rattle.zone.specs.declared.form.Form.{Form}
use Rattle.zone.specs.declared.record.Record.{Record}
use Rattle.cells.specs.Bits.{bits_at}
use Rattle.cells.specs.Cells.{numbers_at, row_end}
use Rattle.zone.specs.Record.{holding}
use Rattle.zone.proofs.Padded.{padded_trimmed, trimmed_length_lem}
use Rattle.units.proofs.Reading.{length-characters}
use Rattle.cells.proofs.RowOctets.{whole_told}
use Rattle.entry.specs.Codes.{sex_by}
use Rattle.entry.specs.Row.{row, cells, start}
use Rattle.entry.specs.Inner.Units.{unit_of, front_units}
use Rattle.runs.specs.Run.{said_of, record_of, record_in, is_whole}
use Rattle.units.specs.Unpacked.{characters_at}
use Rattle.runs.specs.Inner.Units.{own_length, name_at, name_length, Told, end_by, size_by, spare_by, all_units, held}
use Rattle.runs.specs.Inner.Units.{units_over, units_in}
use Rattle.runs.proofs.UnitsRead.{field_read, own_read, padded_field, padded_name}

pub units_are : (s u : List ℕ) (n : ℕ) → u ≡ units_over (replicate all_units filler) (held s n) n → u ≡ units_in s n
unfolding units_in
units_are s u n e = e

-- a field of so many characters at its unit
abbrev pub field_at : List ℕ → (room at : ℕ) → List ℕ
field_at u room at = padded room (take room (drop at u))

abbrev pub record_at : Form → List ℕ → (sex m n : ℕ) → Record
record_at f u sex m n = record {
  form = f;
  code = field_at u code_room (unit_of text.code);
  state = field_at u state_room (unit_of text.state);
  number = field_at u number_room (unit_of text.number);
  number_len = trimmed_length (take number_room (drop (unit_of text.number) u));
  nationality = field_at u state_room (unit_of text.nationality);
  birth = field_at u date_room (unit_of text.birth);
  sex = sex_by sex;
  expiry = field_at u date_room (unit_of text.expiry);
  name = field_at u name_room (front_units + 2 + m);
  name_len = n;
  own = padded own_room (take m (drop (front_units + 1) u));
  own_len = m;
}

-- where an entry ends that tells two lengths
pub row_ends : (s : List ℕ) (m n : ℕ) → Told s m n → row_end (cells row) s 0 ≡ end_by (m + n)
row_ends s m n told = rw (← told.3, ← told.2) (omega arith)

pub record_read : (f : Form) (s : List ℕ) (m n : ℕ) → Told s m n → is_whole s ≡ true
    → record_at f (units_in s (m + n)) (bits_at s (start text.sex) 2) m n ≡ record_in f s
unfolding record_in record_of holding said_of numbers_at is_whole
record_read f s m n told e =
    let whole = whole_told (cells row) s e in
    let k = m + n in
    let less : k < 95 = omega (arith, told.0, told.1) in
    let ends = row_ends s m n told in
    let fits : size_by k ≤ length s = rw ends at whole.long in
    let spare : bits_at s (end_by k) (spare_by k) ≡ 0 = rw ends at whole.zeros in
    let code = padded_field s k fits less (unit_of text.code) code_room (omega arith) in
    let state = padded_field s k fits less (unit_of text.state) state_room (omega arith) in
    let digits = characters_at s (start text.number) number_room in
    let number = padded_field s k fits less (unit_of text.number) number_room (omega arith)
    ∙ sym (padded_trimmed number_room digits) in
    let length-of = ap trimmed_length (field_read s k fits less (unit_of text.number) number_room (omega arith))
    ∙ sym (trimmed_length_lem digits) in
    let nationality = padded_field s k fits less (unit_of text.nationality) state_room (omega arith) in
    let birth = padded_field s k fits less (unit_of text.birth) date_room (omega arith) in
    let expiry = padded_field s k fits less (unit_of text.expiry) date_room (omega arith) in
    let name = padded_name s k fits less spare m n refl
    ∙ ap (λ (i : ℕ). padded name_room (characters_at s (name_at i + 6) n)) told.2
    ∙ ap (λ (i : ℕ). padded name_room (characters_at s (name_at (own_length s) + 6) i)) told.3 in
    let name_long : n ≡ length (characters_at s (name_at (own_length s) + 6) (name_length s)) =
    told.3 ∙ sym (length-characters s (name_at (own_length s) + 6) (name_length s)) in
    let own = ap (padded own_room) (own_read s k fits less spare m n refl)
    ∙ ap (λ (i : ℕ). padded own_room (characters_at s (start text.own + 5) i)) told.2 in
    let own_long : m ≡ length (characters_at s (start text.own + 5) (own_length s)) =
    told.2 ∙ sym (length-characters s (start text.own + 5) (own_length s)) in
    λ i. record {
      form = f;
      code = code i;
      state = state i;
      number = number i;
      number_len = length-of i;
      nationality = nationality i;
      birth = birth i;
      sex = sex_by (bits_at s (start text.sex) 2);
      expiry = expiry i;
      name = name i;
      name_len = name_long i;
      own = own i;
      own_len = own_long i;
    }

-- DEMAND 3, written and read back: where the entry of a house and a sound record stands in a run, reading there answers that
-- house, that record and the offset behind the entry, whatever stands before it and behind it.
use Prim.Native.Nat.{ℕ, ◌+◌, ◌-◌, ◌≤◌}
use mathlib.Core.Path.{◌≡◌, refl, ap, sym, ◌∙◌}
use mathlib.Core.Bool.{true}
use mathlib.Core.List.{List, ◌++◌}
use native.Mathlib.Omega.{arith}
use borrow.Author.Tests.{ne_eqb, le-ltb}
use lib.ListN.{length, take, drop, length-append, length-drop, take-append-drop}
use lib.Seq.{drop_at, length-take-le}
use Rattle.std.specs.Prelude.{Some}
use Rattle.zone.specs.declared.record.Record.{Record}
use Rattle.sound.specs.Sound.{is_sound}
use Rattle.sound.proofs.SoundRecord.{Sound, taken_apart}
use Rattle.cells.specs.Cells.{rounded_up}
use Rattle.cells.proofs.Fitting.{Fits}
use Rattle.cells.proofs.RowOctets.{octets_say, octets_end, octets_whole, length_octets_of}
use Rattle.zone.specs.Form.{form_by}
use Rattle.entry.specs.Row as cell
use Rattle.entry.specs.Row.{row, cells}
use Rattle.entry.specs.Entry.{said, values, entry_of, size, is_house}
use Rattle.zone.proofs.FormTold.{entered_tells}
use Rattle.entry.proofs.Values.{values_fit, values_sized, length_entry}
use Rattle.runs.specs.Run.{next, number_of, values_in, house_in, form_in}
use Rattle.runs.specs.Run.{record_of, record_in, size_in, is_whole, is_entry, entry_by}
use Rattle.runs.specs.Run.{read_entry}
use Rattle.runs.proofs.ValuesBack.{record_back}

-- what stands in a range that begins with an entry
pub record Decoded (h : ℕ) (r : Record) (s : List ℕ) : Type 0 where
  pub house_told : house_in s ≡ h
  pub form_told : form_in s ≡ Some r.form
  pub record_told : record_in r.form s ≡ r
  pub is_entry_lem : is_entry r.form s ≡ true
  pub length-told : size_in s ≡ length (entry_of h r)

module _ (h : ℕ) (r : Record) (house : is_house h ≡ true) (sound : is_sound r ≡ true) where
  o : Sound r
  o = taken_apart r sound

  fits : Fits (cells row) (values row h r)
  fits = values_fit r o h house

  module _ (rest : List ℕ) where
    abbrev s : List ℕ
    s = entry_of h r ++ rest

    -- the bits say what the writer put there
    values_said : values_in s ≡ values row h r
    unfolding entry_of
    values_said = octets_say (cells row) (values row h r) fits rest

    house_read : house_in s ≡ h
    unfolding house_in said
    house_read = ap (λ (vs : List (List ℕ)). number_of vs cell.house) values_said

    form_read : form_in s ≡ Some r.form
    unfolding form_in said
    form_read = ap (λ (vs : List (List ℕ)). form_by (number_of vs cell.form)) values_said ∙ (entered_tells r.form).0

    record_read : record_in r.form s ≡ r
    unfolding record_in
    record_read = ap (record_of r.form) values_said ∙ record_back h r o

    whole : is_whole s ≡ true
    unfolding is_whole entry_of
    whole = octets_whole (cells row) (values row h r) fits rest

    size_read : size_in s ≡ length (entry_of h r)
    unfolding size_in entry_of
    size_read =
        ap (λ (n : ℕ). rounded_up n) (octets_end (cells row) (values row h r) fits rest)
        ∙ sym (length_octets_of (cells row) (values row h r) (values_sized r o h))

    pub decoded : Decoded h r (entry_of h r ++ rest)
    unfolding is_entry
    decoded = record {
      house_told = house_read;
      form_told = form_read;
      record_told = record_read;
      is_entry_lem = rw (house_read, house, whole, record_read, sound);
      length-told = size_read;
    }

  -- the length of an entry is not 0
  pub some_octets : 1 ≤ length (entry_of h r)
  unfolding size
  some_octets = rw (length_entry r o h) (omega arith)

  pub read_back : (front rest : List ℕ)
      → read_entry (front ++ (entry_of h r ++ rest)) (length front)
      ≡ record { onward = next (length front + length (entry_of h r)); house = h; kept = r }
  unfolding read_entry entry_by
  read_back front rest =
      let d = decoded rest in
      let w = front ++ (entry_of h r ++ rest) in
      let long : length w ≡ length front + (length (entry_of h r) + length rest) =
      length-append front (entry_of h r ++ rest) ∙ ap (λ (n : ℕ). length front + n) (length-append (entry_of h r) rest) in
      let some = some_octets in
      let behind : drop (length front) w ≡ entry_of h r ++ rest = drop_at front (entry_of h r ++ rest) (length front) refl in
      rw (
        ne_eqb (length front) (length w) (λ e. omega arith),
        le-ltb (length w) (length front) (omega arith),
        behind,
        d.form_told,
        d.is_entry_lem,
        d.length-told,
        d.house_told,
        d.record_told,
      )

  -- the same, said of the place; past the end no entry stands
  pub read_where_stands : (w : List ℕ) (at : ℕ) (rest : List ℕ) → drop at w ≡ entry_of h r ++ rest
      → read_entry w at ≡ record { onward = next (at + length (entry_of h r)); house = h; kept = r }
  read_where_stands w at rest there =
      let left : length w - at ≡ length (entry_of h r) + length rest = sym (length-drop at w)
      ∙ (ap length there ∙ length-append (entry_of h r) rest) in
      let within : at ≤ length w = omega (arith, some_octets, left) in
      let whole : take at w ++ (entry_of h r ++ rest) ≡ w = ap (λ (x : List ℕ). take at w ++ x) (sym there)
      ∙ take-append-drop at w in
      rw (whole, length-take-le at w within) at (read_back (take at w) rest)

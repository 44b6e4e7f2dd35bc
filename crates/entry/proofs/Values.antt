-- The values of a house and a sound record fit the row, and how many numbers they are.
use Prim.Native.Nat.{ℕ, ◌^◌, ◌≤◌, ◌<◌}
use mathlib.Core.Path.{◌≡◌, refl, ◌∙◌}
use mathlib.Core.Bool.{true}
use mathlib.Core.List.{List, [], ◌∷◌, map}
use native.Mathlib.Omega.{arith}
use borrow.Author.Tests.{leb-true, lt-ltb}
use lib.Dec.{leb}
use lib.ListN.{length, take, length-map}
use lib.Seq.{length-take-le}
use Rattle.lent.proofs.Bools.{and_both}
use Rattle.zone.specs.Alphabet.{is_character, every}
use Rattle.zone.specs.Codes.{code_of}
use Rattle.zone.specs.Part.{Part, code, state, nationality, birth, sex, expiry}
use Rattle.zone.specs.Record.{plain, plain_room, is_plain, held_rows, held}
use Rattle.zone.specs.Rooms.{number_room}
use Rattle.field.specs.Rules.{rule_rows}
use Rattle.zone.specs.declared.record.Record.{Record}
use Rattle.zone.proofs.Every.{every_take}
use Rattle.sound.proofs.SoundRecord.{Sound}
use Rattle.cells.specs.Cells.{counted}
use Rattle.cells.proofs.Fitting.{is_held, FitsCell, Fits, fits_append, Sized, fits_sized, sized_append}
use Rattle.cells.proofs.RowOctets.{length_octets_of}
use Rattle.entry.specs.Codes.{form_code, sex_code}
use Rattle.entry.specs.Row.{row, key, after_key, cells}
use Rattle.entry.specs.Entry.{said, values, entry_of, size, is_house}
use Rattle.entry.proofs.Coded.{codes_held}
use Rattle.zone.proofs.FormTold.{entered_tells}
use Rattle.entry.proofs.Sexes.{sex_tells}

pub house_range : (h : ℕ) → is_house h ≡ true → (1 ≤ h) × (h ≤ 32767)
unfolding is_house
house_range h e = let both = and_both (leb 1 h) (leb h 32767) e in (leb-true 1 h both.0, leb-true h 32767 both.1)

one_held : (w x : ℕ) → x < 2 ^ w → every (is_held w) (x ∷ []) ≡ true
unfolding every is_held
one_held w x h = rw (lt-ltb x (2 ^ w) h)

-- characters in a cell that has as many
coded : (n : ℕ) (c : List ℕ) → length c ≡ n → every is_character c ≡ true
    → (length (map code_of c) ≡ n) × (every (is_held 6) (map code_of c) ≡ true)
coded n c l p = (length-map c code_of ∙ l, codes_held c p)

module _ (r : Record) (s : Sound r) where
  plain_coded : (x : Part) → is_plain x ≡ true
      → (length (map code_of (held r x)) ≡ plain_room x) × (every (is_held 6) (map code_of (held r x)) ≡ true)
  plain_coded x p = coded (plain_room x) (held r x) (s.places x p) (s.characters x p)

  pub name_taken : length (take r.name_len r.name) ≡ r.name_len
  name_taken = length-take-le r.name_len r.name (omega (arith, s.name_most, s.name_places))

  pub own_taken : length (take r.own_len r.own) ≡ r.own_len
  own_taken = length-take-le r.own_len r.own (omega (arith, s.own_most, s.own_places))

  pub own_coded : length (map code_of (take r.own_len r.own)) ≡ r.own_len
  own_coded = length-map (take r.own_len r.own) code_of ∙ own_taken

  pub own_pure : every is_character (take r.own_len r.own) ≡ true
  own_pure = every_take is_character r.own_len r.own s.own_characters

  own_fits : FitsCell (counted 5 6) (map code_of (take r.own_len r.own))
  own_fits = (rw own_coded (omega (arith, s.own_most)), codes_held (take r.own_len r.own) own_pure)

  pub name_coded : length (map code_of (take r.name_len r.name)) ≡ r.name_len
  name_coded = length-map (take r.name_len r.name) code_of ∙ name_taken

  name_fits : FitsCell (counted 6 6) (map code_of (take r.name_len r.name))
  name_fits = (
    rw name_coded (omega (arith, s.name_most)),
    codes_held (take r.name_len r.name) (every_take is_character r.name_len r.name s.name_characters),
  )

  rest_fits : (h : ℕ) → Fits (cells after_key) (values after_key h r)
  unfolding said held_rows plain rule_rows
  rest_fits h =
      let sex-fits = one_held 2 (sex_code r.sex) (sex_tells r.sex (s.kept sex refl)).1 in
      (plain_coded code refl, (plain_coded nationality refl, ((refl, sex-fits), (own_fits, (name_fits, tt)))))

  module _ (h : ℕ) (house : is_house h ≡ true) where
    pub key_fits : Fits (cells key) (values key h r)
    unfolding said held_rows plain
    key_fits =
        let house-fits = one_held 15 h (omega (arith, (house_range h house).1)) in
        let form-fits = one_held 3 (form_code r.form) (entered_tells r.form).1 in
        let number = coded number_room r.number s.number_places s.number_characters in (
          (refl, house-fits),
          (
            (refl, form-fits),
            (
              plain_coded state refl,
              (
                number,
                (
                  plain_coded birth refl,
                  (plain_coded expiry refl, tt),
                ),
              ),
            ),
          ),
        )

    pub values_fit : Fits (cells row) (values row h r)
    values_fit = fits_append (cells key) (cells after_key) (values key h r) (values after_key h r) key_fits (rest_fits h)

  -- ---- lengths

  pub key_sized : (h : ℕ) → Sized (cells key) (values key h r)
  unfolding said held_rows plain
  key_sized h =
      let number = length-map r.number code_of ∙ s.number_places in
      (refl, (refl, ((plain_coded state refl).0, (number, ((plain_coded birth refl).0, ((plain_coded expiry refl).0, tt))))))

  pub values_sized : (h : ℕ) → Sized (cells row) (values row h r)
  values_sized h =
      sized_append (cells key) (cells after_key) (values key h r) (values after_key h r) (key_sized h)
      (fits_sized (cells after_key) (values after_key h r) (rest_fits h))

  -- 283 + 6(n + m) bits rounded up to bytes
  pub length_entry : (h : ℕ) → length (entry_of h r) ≡ size r
  unfolding entry_of size said held_rows
  length_entry h =
      length_octets_of (cells row) (values row h r) (values_sized h)
      ∙ rw (own_coded, name_coded)

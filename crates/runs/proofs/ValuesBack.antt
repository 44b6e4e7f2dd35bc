-- A record and the values of its row tell each other.
use Rattle.std.specs.Prelude.{Some}
use Prim.Native.Nat.{ℕ, ◌+◌}
use mathlib.Core.Path.{◌≡◌, refl, ap, sym, ◌∙◌}
use mathlib.Core.Bool.{true}
use mathlib.Core.List.{List, [], ◌∷◌, map}
use native.Mathlib.Omega.{arith}
use lib.ListN.{length, take, length-map}
use lib.Seq.{take_all}
use Rattle.zone.specs.Alphabet.{is_character, every}
use Rattle.zone.specs.Codes.{code_of, character_of}
use Rattle.zone.specs.Part.{Part, code, state, number, nationality, birth, sex, expiry, name, own}
use Rattle.zone.specs.Record.{trimmed, plain, plain_room, is_plain, held_rows, held, holding}
use Rattle.zone.specs.Rooms.{number_room, name_room, own_room}
use Rattle.zone.specs.declared.form.Form.{Form}
use Rattle.zone.specs.declared.record.Record.{Record}
use Rattle.zone.proofs.FormTold.{tells_entered}
use Rattle.zone.proofs.Holding.{each_plain, held_plain, same_holding}
use Rattle.zone.proofs.Padded.{padded_exact, padded_trimmed, take-padded}
use Rattle.field.specs.Rules.{rule_rows}
use Rattle.sound.proofs.SoundRecord.{Sound, held_pure}
use Rattle.cells.specs.Bits.{bits_at}
use Rattle.cells.specs.Cells.{numbers_at}
use Rattle.cells.proofs.ReadingBack.{length-numbers}
use Rattle.cells.proofs.Shifts.{bits_below}
use Rattle.entry.specs.Codes.{form_code, sex_code, sex_by}
use Rattle.entry.specs.Entry.{said, values}
use Rattle.entry.specs.Row as cell
use Rattle.entry.specs.Row.{row, start_in, start}
use Rattle.entry.proofs.Coded.{codes_tell, characters_tell}
use Rattle.entry.proofs.Sexes.{sex_tells, tells_sex}
use Rattle.runs.specs.Run.{said_of, record_of, record_in, house_in, form_in, values_in}
use Rattle.runs.specs.Inner.Units.{own_length, name_at, name_length}

-- the values of a sound record say that record
pub record_back : (house : ℕ) (r : Record) → Sound r → record_of r.form (values row house r) ≡ r
unfolding record_of said_of said held_rows plain rule_rows trimmed
record_back house r s =
    let tell : (x : Part) → map character_of (map code_of (held r x)) ≡ held r x = λ x. codes_tell (held r x) (held_pure r s x) in
    let one = ap (λ (c : ℕ). c ∷ []) (sex_tells r.sex (s.kept sex refl)).0 in
    let whole = ap trimmed (codes_tell r.number s.number_characters) ∙ ap (λ n. take n r.number) s.number_ends in
    same_holding r.form (said_of (values row house r)) (held r)
    (each_plain (λ x n. said_of (values row house r) x ≡ held r x) (tell code) (tell state) (tell nationality) (tell birth) one
    (tell expiry))
    whole (tell name) (tell own)
    ∙ s.again

-- and the values that bits say are those of the record that they say, where it is sound
module _ (f : Form) (s : List ℕ) (told : form_in s ≡ Some f) (o : Sound (record_in f s)) where
  plain_back : (x : Part) → is_plain x ≡ true
      → said_of (values_in s) x ≡ map character_of (numbers_at s (start x) (plain_room x) 6)
      → map code_of (held (record_in f s) x) ≡ numbers_at s (start x) (plain_room x) 6
  unfolding record_in record_of
  plain_back x p e =
      let v = numbers_at s (start x) (plain_room x) 6 in
      let long = ap length e ∙ length-map v character_of ∙ length-numbers s (start x) (plain_room x) 6 in
      let here = held_plain f (said_of (values_in s)) x p long ∙ e in
      ap (map code_of) here ∙ characters_tell v (ap (every is_character) (sym here) ∙ o.characters x p)

  sex_back : sex_code (sex_by (bits_at s (start sex) 2)) ≡ bits_at s (start sex) 2
  unfolding record_in record_of holding said_of held_rows plain rule_rows numbers_at
  sex_back = tells_sex (bits_at s (start sex) 2) (bits_below s (start sex) 2) (o.kept sex refl)

  -- the number in its room
  number_back : map code_of (record_in f s).number ≡ numbers_at s (start number) number_room 6
  unfolding record_in record_of holding said_of
  number_back =
      let v = numbers_at s (start number) number_room 6 in
      let c = map character_of v in
      let here = padded_trimmed number_room c
      ∙ padded_exact number_room c (length-map v character_of ∙ length-numbers s (start number) number_room 6) in
      ap (map code_of) here ∙ characters_tell v (ap (every is_character) (sym here) ∙ o.number_characters)

  -- data and name, as long as their lengths say
  own_back : map code_of (held (record_in f s) own) ≡ numbers_at s (start own + 5) (own_length s) 6
  unfolding record_in record_of holding said_of held_rows
  own_back =
      let v = numbers_at s (start own + 5) (own_length s) 6 in
      let c = map character_of v in
      let here = take-padded own_room c ∙ take_all own_room c (omega (arith, o.own_most)) in
      ap (map code_of) here ∙ characters_tell v (ap (every is_character) (sym here) ∙ held_pure (record_in f s) o own)

  name_back : map code_of (held (record_in f s) name) ≡ numbers_at s (name_at (own_length s) + 6) (name_length s) 6
  unfolding record_in record_of holding said_of held_rows
  name_back =
      let v = numbers_at s (name_at (own_length s) + 6) (name_length s) 6 in
      let c = map character_of v in
      let here = take-padded name_room c ∙ take_all name_room c (omega (arith, o.name_most)) in
      ap (map code_of) here ∙ characters_tell v (ap (every is_character) (sym here) ∙ held_pure (record_in f s) o name)

  pub values_back : values row (house_in s) (record_in f s) ≡ values_in s
  unfolding said house_in record_in record_of holding said_of form_in numbers_at plain
  values_back =
      let form-at = start_in row cell.form in
      let form : form_code f ≡ bits_at s form-at 3 = tells_entered (bits_at s form-at 3) f told in
      rw (
        form,
        plain_back state refl refl,
        number_back,
        plain_back birth refl refl,
        plain_back expiry refl refl,
        plain_back code refl refl,
        plain_back nationality refl refl,
        sex_back,
        own_back,
        name_back,
      )

-- DEMAND 3, the key: the first thirty bytes of the entries of two houses and sound records agree exactly when house, form, state,
-- whole number, birth and expiry agree; so it is for the records of two accepted texts.
use Prim.Native.Nat.{ℕ}
use mathlib.Core.Path.{◌≡◌, refl, ap, sym, ◌∙◌}
use mathlib.Core.Logic.{◌↔◌}
use mathlib.Core.Bool.{true}
use mathlib.Core.List.{List, map}
use Rattle.zone.specs.declared.form.Form.{Form}
use Rattle.zone.specs.declared.record.Record.{Record}
use Rattle.zone.specs.Alphabet.{is_character, every}
use Rattle.zone.specs.Codes.{code_of, character_of}
use Rattle.zone.specs.Part.{state, birth, expiry}
use Rattle.zone.specs.Record.{trimmed_length, trimmed, padded, plain, held_rows}
use Rattle.zone.specs.Rooms.{number_room}
use Rattle.zone.proofs.FormTold.{as_same}
use Rattle.zone.proofs.Padded.{padded_exact, padded_trimmed}
use Rattle.sound.specs.Sound.{is_sound}
use Rattle.sound.proofs.SoundRecord.{Sound, taken_apart}
use Rattle.cells.specs.Cells.{octets_of}
use Rattle.cells.proofs.RowOctets.{octets_begin, octets_tell}
use Rattle.zone.specs.Form.{form_by}
use Rattle.entry.specs.Codes.{form_code}
use Rattle.entry.specs.Row.{key, after_key, cells}
use Rattle.entry.specs.Entry.{said, values, entry_of, is_house}
use Rattle.entry.proofs.Coded.{codes_tell}
use Rattle.zone.proofs.FormTold.{entered_tells}
use Rattle.entry.proofs.Values.{key_fits, key_sized}
use Rattle.run_theorems.specs.Keys.{key_of, whole_number, SameKey}

-- ---- the thirty bytes are those of the row's beginning

module _ (h : ℕ) (r : Record) (o : Sound r) where
  key_octets : key_of h r ≡ octets_of (cells key) (values key h r)
  unfolding key_of entry_of said
  key_octets = octets_begin (cells key) (cells after_key) (values key h r) (values after_key h r) 30 (key_sized r o h) refl

  number_whole : r.number ≡ padded number_room (whole_number r)
  unfolding trimmed whole_number
  number_whole =
      sym (rw o.number_ends at (padded_trimmed number_room r.number)
      ∙ padded_exact number_room r.number o.number_places)

-- ---- agreeing keys

same_codes : (a b : List ℕ) → every is_character a ≡ true → every is_character b ≡ true → map code_of a ≡ map code_of b → a ≡ b
same_codes a b p q e = sym (codes_tell a p) ∙ ap (map character_of) e ∙ codes_tell b q

same_form : (f g : Form) → form_code f ≡ form_code g → f ≡ g
same_form f g e = as_same f g (sym (entered_tells f).0 ∙ ap form_by e ∙ (entered_tells g).0)

module _ (h k : ℕ) (r q : Record) (house : is_house h ≡ true) (sound : is_sound r ≡ true) (house' : is_house k ≡ true)
    (sound' : is_sound q ≡ true) where
  o : Sound r
  o = taken_apart r sound

  o' : Sound q
  o' = taken_apart q sound'

  same_values : key_of h r ≡ key_of k q → values key h r ≡ values key k q
  same_values e =
      octets_tell (cells key) (values key h r) (values key k q) (key_fits r o h house) (key_fits q o' k house')
      (sym (key_octets h r o) ∙ e ∙ key_octets k q o')

  agreeing : key_of h r ≡ key_of k q → SameKey h r k q
  unfolding whole_number said held_rows plain
  agreeing e =
      let pure = o.characters in
      let pure' = o'.characters in
      let v = same_values e in
      let number : r.number ≡ q.number =
      same_codes r.number q.number o.number_characters o'.number_characters (cc v) in
      let count : r.number_len ≡ q.number_len = sym o.number_ends ∙ ap trimmed_length number ∙ o'.number_ends in
      record {
        same_house = cc v;
        same_form = same_form r.form q.form (cc v);
        same_state = same_codes r.state q.state (pure state refl) (pure' state refl) (cc v);
        same_number = rw (number, count);
        same_birth = same_codes r.birth q.birth (pure birth refl) (pure' birth refl) (cc v);
        same_expiry = same_codes r.expiry q.expiry (pure expiry refl) (pure' expiry refl) (cc v);
      }

  agreed : SameKey h r k q → key_of h r ≡ key_of k q
  unfolding said held_rows
  agreed e =
      let number : r.number ≡ q.number =
      number_whole h r o ∙ ap (padded number_room) e.same_number ∙ sym (number_whole k q o') in
      let same : values key h r ≡ values key k q = rw
      (e.same_house, e.same_form, e.same_state, number, e.same_birth, e.same_expiry) in
      key_octets h r o ∙ ap (octets_of (cells key)) same ∙ sym (key_octets k q o')

  pub key_exactly : (key_of h r ≡ key_of k q) ↔ SameKey h r k q
  key_exactly = (agreeing, agreed)

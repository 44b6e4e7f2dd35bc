-- Two accepted texts whose records agree but for the issuer's own data have one key and two entries (`data_told`).
use Prim.Native.Nat.{ℕ}
use mathlib.Core.Path.{◌≡◌, refl, ap}
use mathlib.Core.Bool.{true}
use mathlib.Core.List.{List, [], ◌∷◌, ◌++◌}
use Rattle.refusal.specs.Outcome.{passed}
use Rattle.zone.specs.declared.form.Source.{Source}
use Rattle.zone.specs.declared.record.Record.{Record}
use Rattle.zone.specs.Part.{state, number, birth, expiry, own}
use Rattle.zone.specs.Record.{held_rows, held}
use Rattle.sound.specs.Sound.{is_sound}
use Rattle.entry.specs.Entry.{is_house, entry_of}
use Rattle.text.specs.Read.{read_text}
use Rattle.text_theorems.proofs.RecordOfText.{kept_and_sound}
use Rattle.run_theorems.specs.Keys.{key_of, whole_number, SameKey, ButForData}
use Rattle.run_theorems.specs.Runs.{Line, is_kept, all_kept, joined}
use Rattle.run_theorems.proofs.Keys.{key_exactly}
use Rattle.run_theorems.proofs.ListReadBack.{joined_tells}

-- the record of the first line
kept_of : Record → List Line → Record
kept_of none [] = none
kept_of none (l ∷ ls) = l.kept

module _ (house : ℕ) (r q : Record) (housed : is_house house ≡ true) (a : is_sound r ≡ true) (b : is_sound q ≡ true)
    (but : ButForData r q) where
  one_key : SameKey house r house q
  unfolding whole_number held_rows
  one_key = record {
    same_house = refl;
    same_form = but.alike_form;
    same_state = but.alike_held state refl;
    same_number = but.alike_held number refl;
    same_birth = but.alike_held birth refl;
    same_expiry = but.alike_held expiry refl;
  }

  abbrev alone : Record → List Line
  alone x = record { house = house; kept = x } ∷ []

  two_entries : entry_of house r ≡ entry_of house q → ⊥
  unfolding joined all_kept is_kept kept_of
  two_entries e =
      let same : alone r ≡ alone q = joined_tells (alone r) (alone q) (rw (housed, a)) (rw (housed, b))
      (ap (λ (l : List ℕ). l ++ []) e) in
      but.other_data (ap (λ (ls : List Line). held (kept_of r ls) own) same)

  pub data_apart : (key_of house r ≡ key_of house q) × (entry_of house r ≡ entry_of house q → ⊥)
  data_apart = ((key_exactly house house r q housed a housed b).1 one_key, two_entries)

-- of two texts, wherever they stand
pub data_told : (house : ℕ) (s z : Source) (t u : List ℕ) → is_house house ≡ true → (read_text s t).outcome ≡ passed
    → (read_text z u).outcome ≡ passed → ButForData (read_text s t).kept (read_text z u).kept
    → (key_of house (read_text s t).kept ≡ key_of house (read_text z u).kept)
    × (entry_of house (read_text s t).kept ≡ entry_of house (read_text z u).kept → ⊥)
data_told house s z t u housed a b but =
    data_apart house (read_text s t).kept (read_text z u).kept housed (kept_and_sound s t a).3 (kept_and_sound z u b).3 but

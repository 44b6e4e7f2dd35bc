-- What the record of an accepted text holds.
use Rattle.std.specs.Prelude.{ℕ, ◌+◌, ◌-◌, ◌≡◌, true, false, List, ◌++◌, take, drop}
use Rattle.zone.specs.declared.form.Form.{Form}
use Rattle.zone.specs.declared.record.Record.{Record}
use Rattle.zone.specs.Part.{Part, number, optional, name, own}
use Rattle.zone.specs.Form.{field, own_part}
use Rattle.zone.specs.Record.{trimmed, is_plain, held}
use Rattle.text_digits.specs.Number.{is_long}
use Rattle.text_theorems.specs.Accepted.{filler_at}

-- the fields that stand in the text, number, name and the issuer's own data without their trailing fillers
pub record Holds (f : Form) (t : List ℕ) (r : Record) : Type 0 where
  pub form_held : r.form ≡ f
  -- code, state, nationality, birth, sex, expiry
  pub plain_held : (x : Part) → is_plain x ≡ true → held r x ≡ field f x t
  pub short_held : is_long f t ≡ false → held r number ≡ trimmed (field f number t)
  pub long_held : is_long f t ≡ true → held r number ≡ field f number t ++ take (filler_at f t - 1) (field f optional t)
  pub name_held : held r name ≡ trimmed (field f name t)
  -- document 02, request 2026-06: "TD3's fourteen characters, TD2's and the visas' optional field, TD1's field in the second
  -- line, trailing fillers dropped"
  pub own_held : is_long f t ≡ false → held r own ≡ trimmed (field f (own_part f) t)
  -- "For a long TD2 number it is what follows the filler after the number's check", and where they stand in another field than
  -- the number that whole field
  pub long_own : is_long f t ≡ true → own_part f ≡ optional → held r own ≡ trimmed (drop (filler_at f t + 1) (field f optional t))
  pub other_own : (own_part f ≡ optional → ⊥) → held r own ≡ trimmed (field f (own_part f) t)

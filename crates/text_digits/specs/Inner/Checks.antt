-- No words of the paper: how the code's promises are joined.
use Rattle.std.specs.Prelude.{ℕ, ◌-◌, Bool, cond, List, eqb, get_or}
use Prim.Native.Char.{code}
use Rattle.refusal.specs.Numbers.{expecting}
use Rattle.refusal.specs.Outcome.{Outcome, passed, or_else, refused_unless}
use Rattle.zone.specs.Part.{Part}
use Rattle.zone.specs.Form.{has}
use Rattle.zone.specs.declared.form.Form.{Form}

-- a place against a digit that was worked out, which the refusal carries, as 0 to 9
unfoldable pub written_at : List ℕ → (place digit : ℕ) → Outcome
written_at t place digit = refused_unless (eqb (get_or t place 0) digit) (expecting (digit - code "0")) place

-- a check of a part, in forms that have it
unfoldable pub if_has : Form → Part → Outcome → Outcome
if_has f x o = cond (has f x) o passed

-- two checks, the one ahead of the other or behind it
unfoldable pub in_turn : Bool → Outcome → Outcome → Outcome
in_turn ahead a b = cond ahead (or_else a b) (or_else b a)

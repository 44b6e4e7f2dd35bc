-- Where the issuer's own data stand.
use Prim.Native.Nat.{ℕ, ◌+◌, ◌-◌, ◌≤◌}
use mathlib.Core.Path.{◌≡◌}
use mathlib.Core.Bool.{Bool, true, false, cond, ◌&&◌, ◌||◌}
use native.Mathlib.Omega.{arith}
use borrow.Author.Rules.{rules}
use lib.Dec.{eqb, ltb}
use Rattle.zone.specs.declared.form.Form.{Form}
use Rattle.zone.specs.Part.{same, optional, optional2, personal}
use Rattle.zone.specs.Rooms.{nine, own_room}
use Rattle.zone.specs.Form.{row, forms, start, start_in, width, width_in, own_part, before_own}
use Rattle.zone.proofs.AllForms.{all_forms}

-- their part is one of three
pub own_parts : (f : Form) → same (own_part f) optional || (same (own_part f) optional2 || same (own_part f) personal) ≡ true
unfolding row forms
own_parts =
    all_forms (λ f. same (own_part f) optional || (same (own_part f) optional2 || same (own_part f) personal) ≡ true)
    (search rules)

-- which begins where the optional field does exactly when it is that
pub own_in_optional : (f : Form) → eqb (start f (own_part f)) (start f optional) ≡ same (own_part f) optional
unfolding row start start_in forms
own_in_optional = all_forms (λ f. eqb (start f (own_part f)) (start f optional) ≡ same (own_part f) optional) (search rules)

pub own_room_lem : (f : Form) → width f (own_part f) ≤ own_room
unfolding row width width_in forms
own_room_lem = all_forms (λ f. width f (own_part f) ≤ own_room) (search rules)

-- what a number takes of it
pub before_most : (f : Form) (n : ℕ) → before_own f n ≤ n + 2
unfolding before_own
before_most f n = go (same (own_part f) optional && ltb nine n)
  where
    go : (b : Bool) → cond b (n - nine + 2) 0 ≤ n + 2
    go true = omega arith
    go false = omega arith

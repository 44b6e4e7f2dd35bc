-- The digits and what is beside, by what was worked out before.
use Prim.Native.Nat.{◌<◌}
use mathlib.Core.Path.{◌≡◌}
use native.Mathlib.Omega.{arith}
use Rattle.zone.specs.Part.{Part, number_check, birth_check, expiry_check}
use Rattle.zone.specs.Form.{start, width}
use Rattle.zone.specs.declared.form.Form.{Form}
use Rattle.zone.specs.Inner.Places.{places_of}
use Rattle.zone.proofs.Widths.{within, total_le, ones}
use Rattle.digit.specs.Inner.Covered.{others_sum}
use Rattle.digit.proofs.composite.others.Goals as goal

below : (f : Form) (x : Part) → width f x ≡ 1 → start f x < 90
below f x e = omega (arith, within f x, total_le f)

pub returns : goal.returns
unfolding others_sum places_of
returns c =
    λ t e.
    let f = c.args.form in
    rw (
      c.beside.ensures.0 t e,
      c.one-3.ensures.0,
      c.one-2.ensures.0,
      c.one.ensures.0,
      c.places-at.ensures,
      e (start f number_check) (below f number_check (ones f).number_check_one),
      e (start f birth_check) (below f birth_check (ones f).birth_check_one),
      e (start f expiry_check) (below f expiry_check (ones f).expiry_check_one),
    )

-- The fields that may stand beside: what their characters count was worked out before.
use Prim.Native.Nat.{ℕ, ◌<◌}
use mathlib.Core.Path.{◌≡◌, ap, ◌∙◌}
use mathlib.Core.List.{List}
use native.Mathlib.Omega.{arith}
use borrow.Author.Rules.{rules}
use lib.ListN.{take, drop}
use Rattle.zone.specs.Part.{Part, optional, optional2, personal_check}
use Rattle.zone.specs.Form.{start, width, field, pieces}
use Rattle.zone.specs.Inner.Places.{before, places_of}
use Rattle.zone.specs.declared.form.Form.{Form}
use Rattle.zone.proofs.Widths.{within, total_le}
use Rattle.digit.specs.Check.{sum_from}
use Rattle.digit.specs.Inner.Thirds.{thirds_in, Counts, weighed}
use Rattle.digit.specs.Inner.Covered.{beside_sum}
use Rattle.digit.proofs.ByThirds.{weighed_sum, same_thirds}
use Rattle.digit.proofs.composite.beside.Goals as goal

narrow : (f : Form) (x : Part) → width f x < 256
narrow f x = omega (arith, within f x, total_le f)

field-sum : (t counts : List ℕ) → Counts t counts → (f : Form) (x : Part) (place : ℕ)
    → weighed (thirds_in (take (width f x) (drop (start f x) counts))) place ≡ sum_from place (field f x t)
unfolding field
field-sum t counts e f x place =
    ap (λ k. weighed k place) (same_thirds t counts e (width f x) (start f x) (omega (arith, within f x, total_le f)))
    ∙ weighed_sum place (field f x t)

pub some-requires : goal.some-requires
unfolding places_of
some-requires c = rw c.places-at.ensures (narrow c.args.form optional)

pub some-requires-2 : goal.some-requires-2
unfolding places_of
some-requires-2 c = rw c.places-at.ensures (narrow c.args.form optional2)

pub some-requires-3 : goal.some-requires-3
unfolding places_of
some-requires-3 c =
    rw c.places-at.ensures (narrow c.args.form personal_check)

pub returns : goal.returns
unfolding beside_sum places_of
returns c =
    let a = c.args in
    let f = a.form in
    let s = a.counts.now in (
      λ t e.
          rw (
            c.some-3.ensures.0,
            c.some-2.ensures.0,
            c.some.ensures.0,
            c.places-at.ensures,
            field-sum t s e f optional (before (start f optional) (pieces f)),
            field-sum t s e f optional2 39,
            field-sum t s e f personal_check 38,
          ),
      search rules,
    )

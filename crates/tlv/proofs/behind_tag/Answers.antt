-- The length stands one octet behind the place, or two.
use Prim.Native.Nat.{◌≤◌}
use mathlib.Core.Path.{◌∙◌}
use mathlib.Core.Bool.{Bool, true, false, cond}
use native.Mathlib.Omega.{arith}
use Rattle.tlv.specs.Element.{behind_tag}
use Rattle.tlv.proofs.Past.{none_behind}
use Rattle.tlv.proofs.behind_tag.Goals as goal

some-octet : (wide : Bool) → 1 ≤ cond wide 2 1
some-octet true = omega arith
some-octet false = omega arith

pub returns-then-s-at : goal.returns-then-s-at
returns-then-s-at c =
    let a = c.args in
    c.refuse.ensures ∙ none_behind a.s.now a.at (cond a.wide 2 1) (some-octet a.wide) c.if-s-at.true

pub returns-then-wide : goal.returns-then-wide
unfolding behind_tag
returns-then-wide c = rw c.if-wide.true c.sized.ensures

pub returns-else-wide : goal.returns-else-wide
unfolding behind_tag
returns-else-wide c = rw c.if-wide.false c.sized-else-wide.ensures

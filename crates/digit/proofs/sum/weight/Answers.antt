-- The number matched on is the place modulo 3.
use native.Mathlib.Omega.{arith}
use Prim.Native.Nat.{◌%◌}
use mathlib.Core.Path.{◌≡◌}
use Rattle.digit.specs.Check.{weight}
use Rattle.digit.proofs.sum.weight.Goals as goal

pub returns-in-0 : goal.returns-in-0
unfolding weight
returns-in-0 c = rw c.in-0.is

pub returns-in-1 : goal.returns-in-1
unfolding weight
returns-in-1 c = rw c.in-1.is

pub returns-in_default : goal.returns-in_default
unfolding weight
returns-in_default c = let k : c.args.place % 3 ≡ 2 =
    omega (arith, c.in_default.in_default-own.rest.1, c.in_default.in_default-own.rest.0.1) in
    rw k

-- Each arm's eight are the paper's; where none of the numbers is asked for, it is 7.
use native.Mathlib.Omega.{arith}
use mathlib.Core.Path.{◌≡◌}
use Prim.Native.Nat.{◌<◌}
use Rattle.sha256.specs.Constants.{K}
use Rattle.sha256.proofs.constants.eight_constants.Goals as goal

pub returns-in-0 : goal.returns-in-0
unfolding K
returns-in-0 c = rw c.in-0.is

pub returns-in-1 : goal.returns-in-1
unfolding K
returns-in-1 c = rw c.in-1.is

pub returns-in-2 : goal.returns-in-2
unfolding K
returns-in-2 c = rw c.in-2.is

pub returns-in-3 : goal.returns-in-3
unfolding K
returns-in-3 c = rw c.in-3.is

pub returns-in-4 : goal.returns-in-4
unfolding K
returns-in-4 c = rw c.in-4.is

pub returns-in-5 : goal.returns-in-5
unfolding K
returns-in-5 c = rw c.in-5.is

pub returns-in-6 : goal.returns-in-6
unfolding K
returns-in-6 c = rw c.in-6.is

pub returns-in_default : goal.returns-in_default
unfolding K
returns-in_default c =
    let n = c.args.eighth in
    let r = c.in_default.in_default-own.rest in
    let far : 3 < n = omega (arith, r.0.0.0.1, r.0.0.0.0.1, r.0.0.0.0.0.1, r.0.0.0.0.0.0.1) in
    let last : n ≡ 7 = omega (arith, far, r.1, r.0.1, r.0.0.1) in
    rw last

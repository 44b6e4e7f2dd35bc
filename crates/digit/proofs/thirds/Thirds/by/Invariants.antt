-- What was passed and what is left count the same as the whole, third by third.
use Prim.Native.Nat.{ℕ, ◌≤◌, ◌*◌, ◌-◌}
use mathlib.Core.Path.{◌≡◌}
use lib.ListN.{length, drop}
use Rattle.digit.specs.Inner.Thirds.{thirds_by}
use Rattle.digit.proofs.ByThirds.{and_left}
use Rattle.digit.proofs.thirds.Thirds.by.Given as goal

abbrev pub invariant-loop-i : goal.invariant-loop-i
invariant-loop-i g l =
    goal.F-IsAlwaysCallable g l.count
    × (l.i ≤ length l.part)
    × (l.first ≤ 255 * l.i)
    × (l.second ≤ 255 * l.i)
    × (l.third ≤ 255 * l.i)
    × ((f : ℕ → ℕ) → ((c n : ℕ) → goal.F-post g l.count c n → n ≡ f c)
    → and_left f l.first l.second l.third (drop l.i l.part) ≡ thirds_by f l.part)

abbrev pub decreases-loop-i : goal.decreases-loop-i
decreases-loop-i g l = length l.part - l.i

-- What was passed and what is left decide for the whole.
use Prim.Native.Nat.{ℕ}
use mathlib.Core.Path.{◌≡◌}
use mathlib.Core.Bool.{Bool, ◌&&◌}
use lib.ListN.{drop}
use Rattle.zone.specs.Alphabet.{every}
use Rattle.zone.specs.Inner.Tests.{IsTableOf}
use Rattle.zone.proofs.alphabet.every_by_table.Given as goal

abbrev pub invariant-loop-octet : goal.invariant-loop-octet
invariant-loop-octet l =
    (test : ℕ → Bool) → IsTableOf l.answers test → l.fine && every test (drop l.octet-index l.s) ≡ every test l.s

-- What was passed and what is left decide for the whole.
use mathlib.Core.Path.{◌≡◌}
use mathlib.Core.Bool.{◌&&◌}
use lib.ListN.{drop}
use Rattle.zone.specs.Alphabet.{every}
use Rattle.zone.proofs.alphabet.every.Given as goal

abbrev pub invariant-loop-c : goal.invariant-loop-c
invariant-loop-c g l = l.fine && every g.T.Test.test (drop l.c-index l.s) ≡ every g.T.Test.test l.s

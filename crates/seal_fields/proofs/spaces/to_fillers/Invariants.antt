-- What is passed, and what is left with its spaces filled, are the whole with its spaces filled.
use mathlib.Core.Path.{◌≡◌}
use mathlib.Core.List.{◌++◌}
use lib.ListN.{take, drop}
use Rattle.seal_fields.specs.Spaces.{filled}
use Rattle.seal_fields.proofs.spaces.to_fillers.Given as goal

abbrev pub invariant-loop-c : goal.invariant-loop-c
invariant-loop-c l = take l.c-index l.text ++ filled (drop l.c-index l.text) ≡ filled l.initial.text

-- What is passed, and what is left as codes, are the whole as codes.
use mathlib.Core.Path.{◌≡◌}
use mathlib.Core.List.{◌++◌, map}
use lib.ListN.{take, drop}
use Rattle.zone.specs.Codes.{code_of}
use Rattle.packing.proofs.pack.to_codes.Given as goal

abbrev pub invariant-loop-c : goal.invariant-loop-c
invariant-loop-c l = take l.c-index l.s ++ map code_of (drop l.c-index l.s) ≡ map code_of l.initial.s

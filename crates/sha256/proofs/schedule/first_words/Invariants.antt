-- The words before place t are the block's; a turn stores one more (`up_to_more`).
use mathlib.Core.Path.{◌≡◌}
use lib.ListN.{length, take}
use Rattle.sha256.specs.Parsing.{word}
use Rattle.sha256.specs.Hash.{up_to}
use Rattle.sha256.proofs.schedule.first_words.Given as goal

abbrev pub invariant-loop-t : goal.invariant-loop-t
invariant-loop-t l = (length l.w ≡ 16) × (take l.t l.w ≡ up_to (word l.block) l.t)

-- What is left of the padded message gives the same as all of it; a turn takes a block off (`chained_block`).
use lib.ListN.{drop}
use mathlib.Core.Path.{◌≡◌}
use Prim.Native.Nat.{◌*◌}
use Rattle.sha256.specs.Constants.{H0}
use Rattle.sha256.specs.Padding.{padded}
use Rattle.sha256.specs.Hash.{chained}
use Rattle.sha256.proofs.message.hash.Given as goal

abbrev pub invariant-loop-block : goal.invariant-loop-block
invariant-loop-block l =
    chained l.hash (drop (64 * l.block-index) (padded l.message)) ≡ chained H0 (padded l.message)

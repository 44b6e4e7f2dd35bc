-- What is left of the rounds gives the same as all of them; a turn takes sixteen off, or eight where no word is missing any
-- more, on words that the ring holds (`rounds_turn`).
use mathlib.Core.Path.{◌≡◌}
use lib.ListN.{drop}
use Prim.Native.Nat.{◌*◌}
use Rattle.sha256.specs.Constants.{K}
use Rattle.sha256.specs.Hash.{rounds, schedule}
use Rattle.sha256.proofs.RingLaws.{Holds}
use Rattle.sha256.proofs.rounds.rounds.Given as goal

abbrev pub invariant-loop-turn : goal.invariant-loop-turn
invariant-loop-turn l =
    Holds l.block l.w (16 * l.turn)
    × (rounds (drop (16 * l.turn) K) (drop (16 * l.turn) (schedule l.block)) l.s ≡ rounds K (schedule l.block) l.initial.s)

abbrev pub invariant-loop-eighth : goal.invariant-loop-eighth
invariant-loop-eighth l =
    rounds (drop (8 * l.eighth) K) (drop (8 * l.eighth) (schedule l.block)) l.s
    ≡ rounds (drop 48 K) (drop 48 (schedule l.block)) l.initial.s

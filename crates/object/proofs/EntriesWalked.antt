-- A walk over entries goes on from the end of each, whatever number of steps is allowed, as long as it is enough; what was seen
-- so far goes with it.
use Prim.Native.Nat.{ℕ, suc, ◌+◌, ◌≤◌, ◌<◌}
use mathlib.Core.Path.{◌≡◌, refl, ap, sym, ◌∙◌}
use mathlib.Core.Bool.{false}
use mathlib.Core.List.{List, [], ◌∷◌}
use native.Mathlib.Omega.{arith}
use borrow.Author.Tests.{le-leb, lt-leb}
use lib.Dec.{leb}
use lib.ListN.{length}
use Rattle.refusal.specs.Numbers.{Why}
use Rattle.tlv.specs.Read.{Read, value, refusal, and_then}
use Rattle.tlv.proofs.Steps.{steps_enough}
use Rattle.object.specs.declared.entries.Seen.{Seen}
use Rattle.object.specs.Object.{GroupHash, entry_at, entries_from, entries}
use Rattle.object.specs.Inner.Seen.{counted, tallied, tally_from}
use Rattle.object.proofs.EntryPlaces.{entry_stands}

-- ---- what comes at a place, by what stands there

module _ (s : List ℕ) (at : ℕ) (here : at < length s) where
  some_left : leb (length s) at ≡ false
  some_left = lt-leb (length s) at here

  entries_more : (k : ℕ) (e : GroupHash) → entry_at s at ≡ value e
      → entries_from (suc k) s at ≡ and_then (entries_from k s e.end) (λ rest. value (e ∷ rest))
  unfolding entries_from and_then
  entries_more k e h = rw (some_left, h)

  entries_stop : (k : ℕ) (n : Why) (p : ℕ) → entry_at s at ≡ refusal n p → entries_from (suc k) s at ≡ refusal n p
  unfolding entries_from and_then
  entries_stop k n p h = rw (some_left, h)

entries_end : (k : ℕ) (s : List ℕ) (at : ℕ) → length s ≤ at → entries_from (suc k) s at ≡ value []
unfolding entries_from
entries_end k s at h = rw (le-leb (length s) at h)

-- an entry before those that follow it
before : ℕ → GroupHash → Read (List GroupHash) → Read (List GroupHash)
before at e rest = and_then rest (λ es. value (e ∷ es))

-- any number of steps that is enough gives the same
entries_enough : (k m : ℕ) (s : List ℕ) (at : ℕ) → length s ≤ at + k → length s ≤ at + m
    → entries_from (suc k) s at ≡ entries_from (suc m) s at
unfolding before
entries_enough k m s at a b =
    steps_enough
    (length s)
    (entry_at s)
    (λ e. e.end)
    before
    (value [])
    (λ i p. entries_from (suc i) s p)
    (λ i p. entries_end i s p)
    (λ i p e h. entries_more s p h (suc i) e)
    (λ i p x y h. entries_stop s p h (suc i) x y)
    (λ p e q. (entry_stands s p e q).0)
    k
    m
    at
    a
    b

one_more_lem : (s : List ℕ) (at : ℕ) → entries s at ≡ entries_from (suc (suc (length s))) s at
unfolding entries
one_more_lem s at = entries_enough (length s) (suc (length s)) s at (omega arith) (omega arith)

-- ---- what the loop goes by

-- an entry counted before the rest or with it
counted_first : (m : Read (List GroupHash)) (t : Seen) (e : GroupHash)
    → and_then (and_then m (λ rest. value (e ∷ rest))) (λ es. value (tallied t es))
    ≡ and_then m (λ es. value (tallied (counted t e) es))
unfolding and_then tallied
counted_first (value es) t e = refl
counted_first (refusal n p) t e = refl

pub tally_step : (s : List ℕ) (at : ℕ) (t : Seen) (e : GroupHash) → at < length s → entry_at s at ≡ value e
    → tally_from s e.end (counted t e) ≡ tally_from s at t
unfolding tally_from entries
tally_step s at t e h q =
    sym (ap (λ m. and_then m (λ es. value (tallied t es))) (one_more_lem s at ∙ entries_more s at h (suc (length s)) e q)
    ∙ counted_first (entries s e.end) t e)

pub tally_refused : (s : List ℕ) (at : ℕ) (t : Seen) (n : Why) (p : ℕ) → at < length s → entry_at s at ≡ refusal n p
    → tally_from s at t ≡ refusal n p
unfolding tally_from and_then
tally_refused s at t n p h q = rw (one_more_lem s at ∙ entries_stop s at h (suc (length s)) n p q)

pub tally_done : (s : List ℕ) (at : ℕ) (t : Seen) → length s ≤ at → tally_from s at t ≡ value t
unfolding tally_from entries and_then tallied
tally_done s at t h = rw (entries_end (length s) s at h)

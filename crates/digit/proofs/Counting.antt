-- The loop that works out what each character counts: what was passed is there, and 0 behind it.
use Prim.Native.Nat.{ℕ, ◌+◌, ◌≤◌, ◌<◌}
use mathlib.Core.Path.{◌≡◌, refl, ◌∙◌}
use mathlib.Core.Bool.{Bool, true, false}
use mathlib.Core.List.{List}
use native.Mathlib.Omega.{arith}
use borrow.Author.Tests.{eqb-true, eqb-false, ltb-true, ltb-false}
use lib.Dec.{eqb, ltb}
use lib.ListN.{length, take, drop, get_or, set, replicate, length-take, get_or-eq_default}
use lib.Seq.{take_all, get_or-take, get_or-set_same, get_or-set_other}
use Rattle.lent.proofs.Lists.{zeros}
use Rattle.zone.specs.Alphabet.{is_digit, is_letter}
use Rattle.digit.specs.Check.{value}
use Rattle.digit.specs.Inner.Thirds.{Counts}

abbrev pub CountsUpTo : ℕ → List ℕ → List ℕ → Type 0
CountsUpTo i s counts = (k : ℕ) → get_or counts k 0 ≡ value (get_or (take i s) k 0)

pub counts_none : (n : ℕ) (s : List ℕ) → CountsUpTo 0 s (replicate n 0)
unfolding value is_digit is_letter
counts_none n s k = zeros n k

pub counts_more : (s counts : List ℕ) (i : ℕ) → i < length s → i < length counts → CountsUpTo i s counts
    → CountsUpTo (i + 1) s (set counts i (value (get_or s i 0)))
counts_more s counts i h l e k = go (eqb k i) refl (ltb k i) refl
  where
    go : (b : Bool) → eqb k i ≡ b → (c : Bool) → ltb k i ≡ c
        → get_or (set counts i (value (get_or s i 0))) k 0 ≡ value (get_or (take (i + 1) s) k 0)
    go true p c q =
        rw (eqb-true k i p, get_or-set_same counts i (value (get_or s i 0)) 0 l, get_or-take (i + 1) s i 0 (omega arith))
    go false p true q =
        let below = ltb-true k i q in
        rw (
          get_or-set_other counts i k (value (get_or s i 0)) 0 (eqb-false k i p),
          e k,
          get_or-take i s k 0 below,
          get_or-take (i + 1) s k 0 (omega arith),
        )
    go false p false q =
        let not = eqb-false k i p in
        let from = ltb-false k i q in
        let far : length (take i s) ≤ k = rw length-take (omega arith) in
        let further : length (take (i + 1) s) ≤ k = rw length-take (omega arith) in
        rw (
          get_or-set_other counts i k (value (get_or s i 0)) 0 not,
          e k,
          get_or-eq_default (take i s) 0 far,
          get_or-eq_default (take (i + 1) s) 0 further,
        )

pub counts_all : (t s counts : List ℕ) (i : ℕ) → s ≡ take 90 (drop 0 t) → length s ≤ i → CountsUpTo i s counts → Counts t counts
counts_all t s counts i e h u k l =
    u k ∙ rw (take_all i s h, e, get_or-take 90 t k 0 l)

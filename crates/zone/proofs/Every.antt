-- The laws of `every`, over the test p: by which a loop over all characters steps, and where a search finds none that fails it.
use mathlib.Core.Path.{◌≡◌, refl, ap, sym, ◌∙◌}
use mathlib.Core.List.{List, [], ◌∷◌, ◌++◌}
use mathlib.Core.Bool.{Bool, true, false, not, ◌&&◌, and-true, and_assoc}
use Prim.Native.Nat.{ℕ, ◌+◌, ◌≤◌, ◌<◌, zero, suc, ◌-◌}
use native.Mathlib.Numerals.{add-one}
use lib.ListN.{length, drop, get_or, drop_of_length-le, take, replicate, take-append-drop}
use lib.Seq.{drop-cons, take-add}
use native.Mathlib.Omega.{arith}
use Rattle.lent.proofs.Bools.{and_both}
use Rattle.zone.specs.Alphabet.{every, first}

-- a loop that goes to the end: what was passed and what is left decide for the whole
module _ (p : ℕ → Bool) (s : List ℕ) (i : ℕ) (fine : Bool) (left : fine && every p (drop i s) ≡ every p s) where
  pub every_step : i < length s → (fine && p (get_or s i 0)) && every p (drop (i + 1) s) ≡ every p s
  unfolding every
  every_step h =
      and_assoc fine (p (get_or s i 0)) (every p (drop (i + 1) s)) ∙ rw (add-one i) (rw (drop-cons s i 0 h) at left)

  pub every_done : length s ≤ i → fine ≡ every p s
  unfolding every
  every_done h = sym (and-true fine) ∙ (rw (drop_of_length-le s h) at left)

-- lists joined
every_join : (p : ℕ → Bool) (a b : List ℕ) → every p (a ++ b) ≡ every p a && every p b
unfolding every
every_join p [] b = refl
every_join p (c ∷ a) b = rw (every_join p a b) (sym (and_assoc (p c) (every p a) (every p b)))

-- A loop over pieces, after the last: the next piece,
pub every_piece : (p : ℕ → Bool) (s : List ℕ) (last : Bool) (i k : ℕ)
    → (last && every p (take i s)) && every p (take k (drop i s)) ≡ last && every p (take (i + k) s)
every_piece p s last i k =
    and_assoc last (every p (take i s)) (every p (take k (drop i s)))
    ∙ rw (take-add i k s, every_join p (take i s) (take k (drop i s)))

-- and where those that were passed reach into the last
overlap : (a b c : Bool) → (b && c) && (a && b) ≡ a && (b && c)
overlap true true true = refl
overlap true true false = refl
overlap true false c = refl
overlap false true true = refl
overlap false true false = refl
overlap false false c = refl

pub every_overlap : (p : ℕ → Bool) (s : List ℕ) (from i : ℕ) → from ≤ i
    → every p (drop from s) && every p (take i s) ≡ every p s
every_overlap p s from i h =
    let k = i - from in
    let e : from + k ≡ i = omega arith in
    let u = drop from s in
    let front = rw e at (take-add from k s) in
    let back = take-append-drop k u in
    let whole = take-append-drop from s in
    let b = every p (take k u) in
    let c = every p (drop k u) in
    let a = every p (take from s) in
    let last : every p u ≡ b && c = sym (ap (every p) back) ∙ every_join p (take k u) (drop k u) in
    let passed : every p (take i s) ≡ a && b = ap (every p) front ∙ every_join p (take from s) (take k u) in
    let all : every p s ≡ a && every p u = sym (ap (every p) whole) ∙ every_join p (take from s) u in
    rw (all, passed, last) (overlap a b c)

-- where every one passes, the search for one that does not comes to the end
pub every_first : (p : ℕ → Bool) (s : List ℕ) → every p s ≡ true → first (λ c. not (p c)) s ≡ length s
unfolding every first
every_first p [] e = refl
every_first p (c ∷ s) e = let both = and_both (p c) (every p s) e in rw (both.0, every_first p s both.1)

pub every_append : (p : ℕ → Bool) (a b : List ℕ) → every p a ≡ true → every p b ≡ true → every p (a ++ b) ≡ true
unfolding every
every_append p [] b e f = f
every_append p (c ∷ a) b e f =
    let both = and_both (p c) (every p a) e in
    rw (both.0, every_append p a b both.1 f)

pub every_take : (p : ℕ → Bool) (n : ℕ) (s : List ℕ) → every p s ≡ true → every p (take n s) ≡ true
unfolding every
every_take p zero s e = refl
every_take p (suc n) [] e = refl
every_take p (suc n) (c ∷ s) e =
    let both = and_both (p c) (every p s) e in
    rw (both.0, every_take p n s both.1)

pub every_drop : (p : ℕ → Bool) (n : ℕ) (s : List ℕ) → every p s ≡ true → every p (drop n s) ≡ true
unfolding every
every_drop p zero s e = e
every_drop p (suc n) [] e = refl
every_drop p (suc n) (c ∷ s) e = every_drop p n s (and_both (p c) (every p s) e).1

pub every_replicate : (p : ℕ → Bool) (m c : ℕ) → p c ≡ true → every p (replicate m c) ≡ true
unfolding every
every_replicate p zero c e = refl
every_replicate p (suc m) c e = rw (e, every_replicate p m c e)

pub every_each : (p : ℕ → Bool) (s : List ℕ) → ((i : ℕ) → i < length s → p (get_or s i 0) ≡ true) → every p s ≡ true
unfolding every
every_each p [] h = refl
every_each p (c ∷ s) h = rw (h 0 (omega arith), every_each p s (λ i k. h (suc i) (omega arith)))

pub each_every : (p : ℕ → Bool) (s : List ℕ) → every p s ≡ true → (i : ℕ) → i < length s → p (get_or s i 0) ≡ true
unfolding every
each_every p [] e i h = absurd (omega arith)
each_every p (c ∷ s) e zero h = (and_both (p c) (every p s) e).0
each_every p (c ∷ s) e (suc i) h = each_every p s (and_both (p c) (every p s) e).1 i (omega arith)

-- where every character passes a test, every one passes a wider test
pub every_wider : (p q : ℕ → Bool) → ((c : ℕ) → p c ≡ true → q c ≡ true) → (s : List ℕ) → every p s ≡ true → every q s ≡ true
every_wider p q wider s e = every_each q s (λ i h. wider (get_or s i 0) (each_every p s e i h))

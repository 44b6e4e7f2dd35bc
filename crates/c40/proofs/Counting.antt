-- Counting the characters: what is read from a place on, behind n others, answers the same as the whole.
use Prim.Native.Nat.{ℕ, zero, suc, ◌+◌, ◌-◌, ◌*◌, ◌/◌, ◌≤◌, ◌<◌}
use mathlib.Core.Path.{◌≡◌, refl, sym, ap, ◌∙◌}
use mathlib.Core.Bool.{Bool, true, false, cond, ◌&&◌, and_assoc, false≢true}
use mathlib.Core.List.{List, [], ◌∷◌, ◌++◌}
use native.Mathlib.Nat.{zero-add, add-zero}
use native.Mathlib.Omega.{arith}
use borrow.Author.Tests.{lt-leb, le-leb}
use lib.Dec.{eqb, leb}
use lib.ListN.{length, take, drop, get_or, drop_of_length-le}
use lib.Seq.{drop-cons, drop-drop, take_all, get_or-take, get_or-drop}
use Rattle.c40.specs.declared.pair.Triple.{Triple}
use Rattle.std.specs.Prelude.{Option, Some, None}
use Rattle.std.specs.Bool.{then_some}
use Rattle.std.specs.Simd.{first_chunks}
use Rattle.lent.proofs.Bools.{and_both}
use Rattle.c40.specs.Reader.{Reading, characters, no_image, number_of, values_of, is_three, three}
use Rattle.c40.specs.Reader.{before, last_pair, read_c40}
use Rattle.c40.proofs.Pairs.{Pairs, none, of_three, pairs_read}
use Rattle.c40.specs.Inner.Left.{answered, fitted, all_three}

-- three more behind n
three_fitted : (room n : ℕ) (v : Triple) (r : Reading) → fitted room n (before (three v) r) ≡ fitted room (n + 3) r
unfolding fitted before three
three_fitted room n v (characters t) =
    let e : n + length (three v ++ t) ≡ n + 3 + length t = omega arith in
    rw e
three_fitted room n v no_image = refl

none_fitted : (room n : ℕ) (r : Reading) → room < n → fitted room n r ≡ None
unfolding fitted
none_fitted room n (characters t) h = rw (lt-leb (n + length t) room (omega arith))
none_fitted room n no_image h = refl

-- a pair, and what is left behind it
pub pair_and_rest : (s : List ℕ) → 2 ≤ length s → s ≡ get_or s 0 0 ∷ get_or s 1 0 ∷ take (length s - 2) (drop 2 s)
pair_and_rest [] h = absurd (omega arith)
pair_and_rest (x ∷ []) h = absurd (omega arith)
pair_and_rest (x ∷ y ∷ s) h =
    let e : suc (suc (length s)) - 2 ≡ length s = omega arith in
    rw (e, take_all (length s) s (omega arith))

module _ {s t : List ℕ} {x y : ℕ} (is : s ≡ x ∷ y ∷ t) (room n : ℕ) {whole : Option ℕ}
    (left : fitted room n (read_c40 s) ≡ whole) where
  -- three more
  pub three_at : is_three (values_of (number_of x y)) ≡ true → fitted room (n + 3) (read_c40 t) ≡ whole
  unfolding read_c40
  three_at e = sym (three_fitted room n (values_of (number_of x y)) (read_c40 t)) ∙ (rw (is, e) at left)

  -- there is no room for three more
  pub three_full : is_three (values_of (number_of x y)) ≡ true → room < n + 3 → None ≡ whole
  three_full e k = sym (none_fitted room (n + 3) (read_c40 t) k) ∙ three_at e

  -- another pair that is not the last
  pub not_last : is_three (values_of (number_of x y)) ≡ false → 0 < length t → None ≡ whole
  unfolding read_c40 last_pair fitted
  not_last e h = rw (is, e, drop-cons t 0 0 h) at left

  -- the last pair
  pub last_at : is_three (values_of (number_of x y)) ≡ false → length t ≤ 0 → fitted room n (last_pair x y []) ≡ whole
  unfolding read_c40
  last_at e h = rw (is, e, drop_of_length-le t {i = 0} h) at left

-- none is left, or half a pair
pub none_at : (s : List ℕ) (room n : ℕ) (whole : Option ℕ) → fitted room n (read_c40 s) ≡ whole → length s < 2 → n ≤ room
    → then_some (eqb (length s) 0) n ≡ whole
unfolding read_c40 fitted
none_at [] room n whole left h k =
    let fits : leb (n + 0) room ≡ true = le-leb (n + 0) room (omega arith) in
    rw (fits, add-zero n) at left
none_at (x ∷ []) room n whole left h k = left
none_at (x ∷ y ∷ s) room n whole left h k = absurd (omega arith)

-- the whole, behind nothing
pub all_fitted : (s : List ℕ) (room : ℕ) → fitted room 0 (read_c40 s) ≡ answered (read_c40 s) room
unfolding fitted answered
all_fitted s room = go (read_c40 s)
  where
    go : (r : Reading) → fitted room 0 r ≡ answered r room
    go (characters t) = rw zero-add
    go no_image = refl

-- ---- pairs of three alone

-- a chunk of two
chunk_at : (k : ℕ) (s : List ℕ) (i : ℕ) → i < k → get_or (first_chunks 2 k s) i [] ≡ take 2 (drop (2 * i) s)
chunk_at zero s i h = absurd (omega arith)
chunk_at (suc k) s zero h = refl
chunk_at (suc k) s (suc i) h =
    let e : 2 * suc i ≡ 2 + 2 * i = omega arith in
    rw e (chunk_at k (drop 2 s) i (omega arith) ∙ ap (take 2) (drop-drop (2 * i) 2 s))

pub pair_chunk : (k : ℕ) (s : List ℕ) (i : ℕ) → i < k
    → (get_or (get_or (first_chunks 2 k s) i []) 0 0 ≡ get_or s (2 * i) 0)
    × (get_or (get_or (first_chunks 2 k s) i []) 1 0 ≡ get_or s (2 * i + 1) 0)
pair_chunk k s i h =
    let e = chunk_at k s i h in (
      rw (e, get_or-take 2 (drop (2 * i) s) 0 0 (omega arith), get_or-drop (2 * i) s 0 0, add-zero),
      rw (e, get_or-take 2 (drop (2 * i) s) 1 0 (omega arith), get_or-drop (2 * i) s 1 0),
    )

pub pass_three : {s t : List ℕ} {x y : ℕ} → s ≡ x ∷ y ∷ t → (fine : Bool) {whole : Bool} → fine && all_three s ≡ whole
    → (fine && is_three (values_of (number_of x y))) && all_three t ≡ whole
unfolding all_three
pass_three {t = t} {x = x} {y = y} is fine left =
    and_assoc fine (is_three (values_of (number_of x y))) (all_three t) ∙ (rw is at left)

-- none is left, or half a pair
pub all_passed : (s : List ℕ) (fine whole : Bool) → fine && all_three s ≡ whole → length s < 2 → fine && eqb (length s) 0 ≡ whole
unfolding all_three
all_passed [] fine whole left h = left
all_passed (x ∷ []) fine whole left h = left
all_passed (x ∷ y ∷ s) fine whole left h = absurd (omega arith)

-- there are three characters for each two octets
three_pairs : (s : List ℕ) → all_three s ≡ true
    → (t : List ℕ) × Pairs s t × (k : ℕ) × (length s ≡ 2 * k) × (length t ≡ 3 * k)
unfolding all_three three
three_pairs [] e = ([], none, 0, refl, refl)
three_pairs (x ∷ []) e = absurd (false≢true e)
three_pairs (x ∷ y ∷ s) e =
    let both = and_both (is_three (values_of (number_of x y))) (all_three s) e in
    let r = three_pairs s both.1 in
    let t = three (values_of (number_of x y)) ++ r.0 in
    (t, of_three x y both.0 r.1, suc r.2, omega (arith, r.3), omega (arith, r.4))

pub three_answered : (s : List ℕ) (room : ℕ) → all_three s ≡ true
    → cond (leb (0 + length s / 2 * 3) room) (Some (0 + length s / 2 * 3)) None ≡ answered (read_c40 s) room
unfolding answered
three_answered s room e =
    let r = three_pairs s e in
    let n : 0 + length s / 2 * 3 ≡ length r.0 = omega (arith, r.3, r.4) in
    rw (pairs_read r.1, n)

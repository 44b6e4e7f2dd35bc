-- Laws on the loop over units of six bits that packs four into three octets.
use Prim.Native.Nat.{ℕ, zero, suc, ◌+◌, ◌*◌, ◌/◌, ◌%◌, ◌≤◌, ◌<◌}
use mathlib.Core.Path.{◌≡◌, refl}
use mathlib.Core.List.{List, ◌++◌}
use mathlib.Core.Logic.{inl}
use native.Mathlib.Omega.{arith}
use borrow.Author.Tests.{le-leb, lt-ltb}
use lib.ListN.{length, take, drop, get_or, set}
use lib.Seq.{get_or-drop}
use Rattle.lent.specs.Copied.{copied}
use Rattle.lent.proofs.Lists.{copy_more, copy_ends}
use Rattle.packing.specs.Packed.{on, four_at, four_on, packed, packed_over, packed_on_over}

-- ---- the loop that packs

-- with no bits on the next unit makes no difference
pub none_on : (s : List ℕ) (at : ℕ) → four_on 0 s at ≡ four_at s at
unfolding four_on
none_on s at = omega arith

module _ (j : ℕ) where
  pub length-packed : (k : ℕ) (s : List ℕ) → length (packed j k s) ≡ 3 * k
  unfolding packed
  length-packed zero s = refl
  length-packed (suc k) s = omega (arith, length-packed k (drop 4 s))

  -- the three octets of four units
  pub record Three (k : ℕ) (s : List ℕ) (i number : ℕ) : Type 0 where
    pub first : get_or (packed j k s) (3 * i) 0 ≡ number / 65536 % 256
    pub second : get_or (packed j k s) (3 * i + 1) 0 ≡ number / 256 % 256
    pub third : get_or (packed j k s) (3 * i + 2) 0 ≡ number % 256

  -- the same four, counted from four later on
  four_later : (s : List ℕ) (i : ℕ) → four_on j (drop 4 s) (4 * i) ≡ four_on j s (4 * suc i)
  unfolding four_on four_at
  four_later s i =
      let a : 4 + 4 * i ≡ 4 * suc i = omega arith in
      let b : 4 + (4 * i + 1) ≡ 4 * suc i + 1 = omega arith in
      let c : 4 + (4 * i + 2) ≡ 4 * suc i + 2 = omega arith in
      let d : 4 + (4 * i + 3) ≡ 4 * suc i + 3 = omega arith in
      let e : 4 + (4 * i + 4) ≡ 4 * suc i + 4 = omega arith in
      rw (
        get_or-drop 4 s (4 * i) 0,
        get_or-drop 4 s (4 * i + 1) 0,
        get_or-drop 4 s (4 * i + 2) 0,
        get_or-drop 4 s (4 * i + 3) 0,
        get_or-drop 4 s (4 * i + 4) 0,
        a,
        b,
        c,
        d,
        e,
      )

  pub packed_three : (k : ℕ) (s : List ℕ) (i : ℕ) → i < k → Three k s i (four_on j s (4 * i))
  unfolding packed
  packed_three zero s i h = absurd (omega arith)
  packed_three (suc k) s zero h = record { first = refl; second = refl; third = refl }
  packed_three (suc k) s (suc i) h =
      let more = packed_three k (drop 4 s) i (omega arith) in
      let e : 3 * suc i ≡ suc (suc (suc (3 * i))) = omega arith in
      let g : 3 * suc i + 1 ≡ suc (suc (suc (3 * i + 1))) = omega arith in
      let l : 3 * suc i + 2 ≡ suc (suc (suc (3 * i + 2))) = omega arith in
      let n = four_later s i in
      record { first = rw (e, ← n) more.first; second = rw (g, ← n) more.second; third = rw (l, ← n) more.third }

  -- three octets more
  pub pack_more : (out s : List ℕ) (k i number : ℕ) → 3 * k ≤ length out → i < k → number ≡ four_on j s (4 * i)
      → set (set (set (take (3 * i) (packed j k s) ++ drop (3 * i) out) (3 * i) (number / 65536 % 256))
      (3 * i + 1) (number / 256 % 256)) (3 * i + 2) (number % 256)
      ≡ take (3 * (i + 1)) (packed j k s) ++ drop (3 * (i + 1)) out
  pack_more out s k i number h l e =
      let p = packed j k s in
      let long = length-packed k s in
      let three = packed_three k s i l in
      let f : 3 * (i + 1) ≡ 3 * i + 2 + 1 = omega arith in
      let g : 3 * i + 1 + 1 ≡ 3 * i + 2 = omega arith in
      let one = copy_more out p (3 * i) (omega arith) (omega arith) in
      let two = copy_more out p (3 * i + 1) (omega arith) (omega arith) in
      let last = copy_more out p (3 * i + 2) (omega arith) (omega arith) in
      rw (e, ← three.first, ← three.second, ← three.third, one, two, g, last, f)

  pub pack_ends : (out s : List ℕ) (k i : ℕ) → 3 * k ≤ length out → i ≡ k
      → take (3 * i) (packed j k s) ++ drop (3 * i) out ≡ copied out (packed j k s)
  pack_ends out s k i h e =
      let long = length-packed k s in
      copy_ends out (packed j k s) (3 * i) (omega arith) (omega arith) (inl (omega arith))

-- ---- where there is room

pub pack_room : (k : ℕ) (out s : List ℕ) → k ≤ length s / 4 → k ≤ length out / 3
    → packed_over k out s ≡ copied out (packed 0 k s)
unfolding packed_over
pack_room k out s h l = rw (le-leb k (length s / 4) h, le-leb k (length out / 3) l)

pub pack_on_room : (k : ℕ) (out s : List ℕ) → k < length s / 4 → k ≤ length out / 3
    → packed_on_over k out s ≡ copied out (packed on k s)
unfolding packed_on_over
pack_on_room k out s h l = rw (lt-ltb k (length s / 4) h, le-leb k (length out / 3) l)

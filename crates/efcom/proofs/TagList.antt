-- The laws by which the tag list is walked: what is left from a place on decides.
use Prim.Native.Nat.{ℕ, zero, suc, ◌+◌, ◌≤◌, ◌<◌}
use mathlib.Core.Path.{◌≡◌}
use mathlib.Core.Bool.{true, false}
use mathlib.Core.List.{List, [], ◌∷◌}
use native.Mathlib.Numerals.{add-one}
use native.Mathlib.Omega.{arith}
use lib.ListN.{length, drop, get_or, drop_of_length-le}
use lib.Seq.{drop-cons}
use Rattle.refusal.specs.Numbers.{by}
use Rattle.refusal.specs.Outcome.{Outcome, passed, refused}
use Rattle.lent.specs.Octets.{stands}
use Rattle.tlv.specs.Tags.{is_group}
use Rattle.efcom.specs.EfCom.{known_from, once_from}

-- ---- unknown tags

module _ (s : List ℕ) (from i : ℕ) (r : Outcome) (left : known_from (from + i) (drop i s) ≡ r) where
  pub known_more : i < length s → is_group (get_or s i 0) ≡ true → known_from (from + (i + 1)) (drop (i + 1) s) ≡ r
  unfolding known_from
  known_more h t = let k : from + (i + 1) ≡ suc (from + i) = omega arith in rw (k, add-one i) (rw (drop-cons s i 0 h, t) at left)

  pub known_stop : i < length s → is_group (get_or s i 0) ≡ false → refused (by 11) (from + i) ≡ r
  unfolding known_from
  known_stop h t = rw (drop-cons s i 0 h, t) at left

  pub known_end : length s ≤ i → passed ≡ r
  unfolding known_from
  known_end h = rw (drop_of_length-le s h) at left

-- ---- repeated tags

-- the octets before a place, the last first
unfoldable pub back_from : ℕ → List ℕ → List ℕ
back_from zero s = []
back_from (suc i) s = get_or s i 0 ∷ back_from i s

pub back_more : (i : ℕ) (s : List ℕ) → back_from (i + 1) s ≡ get_or s i 0 ∷ back_from i s
unfolding back_from
back_more i s = rw (add-one i)

module _ (s : List ℕ) (from i : ℕ) (r : Outcome) (left : once_from (from + i) (back_from i s) (drop i s) ≡ r) where
  pub once_more : i < length s → stands (get_or s i 0) (back_from i s) ≡ false
      → once_from (from + (i + 1)) (back_from (i + 1) s) (drop (i + 1) s) ≡ r
  unfolding once_from back_from
  once_more h t = let k : from + (i + 1) ≡ suc (from + i) = omega arith in rw (k, add-one i) (rw (drop-cons s i 0 h, t) at left)

  pub once_stop : i < length s → stands (get_or s i 0) (back_from i s) ≡ true → refused (by 11) (from + i) ≡ r
  unfolding once_from
  once_stop h t = rw (drop-cons s i 0 h, t) at left

  pub once_end : length s ≤ i → passed ≡ r
  unfolding once_from
  once_end h = rw (drop_of_length-le s h) at left

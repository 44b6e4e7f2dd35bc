-- The steps of a loop that changes every element of a range: what is passed, and what is left changed, are the whole changed.
use Prim.Native.Nat.{ℕ, suc, ◌+◌, ◌≤◌, ◌<◌}
use mathlib.Core.Path.{◌≡◌, sym}
use mathlib.Core.List.{List, ◌++◌, map, append-nil}
use native.Mathlib.Numerals.{add-one}
use native.Mathlib.Omega.{arith}
use lib.ListN.{length, take, drop, get_or, set, drop_of_length-le}
use lib.Seq.{take_all, take-suc-set, drop-set-lt, drop-cons, append_snoc}

module _ (f : ℕ → ℕ) (s : List ℕ) (i : ℕ) where
  -- what is stored at i is what the rest would hold there
  pub map_step : i < length s
      → take (i + 1) (set s i (f (get_or s i 0))) ++ map f (drop (i + 1) (set s i (f (get_or s i 0)))) ≡ take i s
      ++ map f (drop i s)
  map_step h =
      let c = f (get_or s i 0) in
      rw (add-one i, take-suc-set s i c h, drop-set-lt (suc i) s i c (omega arith), drop-cons s i 0 h)
      (append_snoc (take i s) c (map f (drop (suc i) s)))

  -- nothing is left
  pub map_done : length s ≤ i → s ≡ take i s ++ map f (drop i s)
  map_done h = rw (drop_of_length-le s h, take_all i s h) (sym (append-nil s))

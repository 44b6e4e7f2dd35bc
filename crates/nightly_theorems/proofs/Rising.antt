-- Keys that rise behind a key, which is what a walk over a list asks; and the key of an entry that stands in a list.
use Prim.Native.Nat.{ℕ, ◌≤◌}
use mathlib.Core.Path.{◌≡◌, refl, ap, sym, ◌∙◌}
use mathlib.Core.Bool.{Bool, true, false, ◌&&◌}
use mathlib.Core.List.{List, [], ◌∷◌, ◌++◌}
use native.Mathlib.Omega.{arith}
use lib.ListN.{length, take, drop}
use lib.Seq.{take-append-le, length-take-le}
use Rattle.lent.proofs.Bools.{and_both}
use Rattle.nightly.specs.Key.{key_at, is_below}
use Rattle.run_theorems.specs.Keys.{key_of}
use Rattle.run_theorems.specs.Runs.{Line, is_kept, all_kept}
use Rattle.run_theorems.proofs.EntryLengths.{entry_bounds}
use Rattle.run_theorems.proofs.ListReadBack.{kept_both}
use Rattle.nightly_theorems.specs.Listed.{octets_of, key_in, rises}

-- behind a key
unfoldable pub rises_from : (key : List ℕ) → List Line → Bool
rises_from key [] = true
rises_from key (l ∷ ls) = is_below key (key_in l) && rises_from (key_in l) ls

-- the last key of lines behind a key
unfoldable pub last_key : (key : List ℕ) → List Line → List ℕ
last_key key [] = key
last_key key (l ∷ ls) = last_key (key_in l) ls

some_above : (b : List ℕ) → 1 ≤ length b → is_below [] b ≡ true
unfolding is_below
some_above [] h = absurd (omega arith)
some_above (y ∷ b) h = refl

module _ (l : Line) (kept : is_kept l ≡ true) where
  long : 30 ≤ length (octets_of l)
  long = omega (arith, (entry_bounds l.house l.kept (kept_both l kept).1).0)

  -- nothing is below every key
  pub key_above : is_below [] (key_in l) ≡ true
  unfolding key_of
  key_above = some_above (take 30 (octets_of l)) (rw (length-take-le 30 (octets_of l) long) (omega arith))

  pub key_there : (w : List ℕ) (at : ℕ) (rest : List ℕ) → drop at w ≡ octets_of l ++ rest → key_at w at ≡ key_in l
  unfolding key_at key_of
  key_there w at rest there = ap (take 30) there ∙ take-append-le 30 (octets_of l) rest long

rises_behind : (l : Line) (ls : List Line) → rises (l ∷ ls) ≡ rises_from (key_in l) ls
unfolding rises rises_from
rises_behind l [] = refl
rises_behind l (m ∷ ls) = ap (λ (b : Bool). is_below (key_in l) (key_in m) && b) (rises_behind m ls)

pub rises_from_lem : (ls : List Line) → all_kept ls ≡ true → rises ls ≡ rises_from [] ls
unfolding rises rises_from all_kept
rises_from_lem [] kept = refl
rises_from_lem (l ∷ ls) kept =
    rises_behind l ls ∙ sym (rw (key_above l (and_both (is_kept l) (all_kept ls) kept).0))

-- one more
pub rises_more : (key : List ℕ) (ls : List Line) (l : Line)
    → rises_from key (ls ++ (l ∷ [])) ≡ rises_from key ls && is_below (last_key key ls) (key_in l)
unfolding rises_from last_key
rises_more key [] l = go (is_below key (key_in l))
  where
    go : (b : Bool) → b && true ≡ b
    go true = refl
    go false = refl
rises_more key (m ∷ ls) l = go (is_below key (key_in m)) (rises_more (key_in m) ls l)
  where
    go : (b : Bool) → rises_from (key_in m) (ls ++ (l ∷ [])) ≡ rises_from (key_in m) ls
        && is_below (last_key (key_in m) ls) (key_in l)
        → b && rises_from (key_in m) (ls ++ (l ∷ [])) ≡ (b && rises_from (key_in m) ls)
        && is_below (last_key (key_in m) ls) (key_in l)
    go true e = e
    go false e = refl

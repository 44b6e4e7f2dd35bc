-- A walk over files goes on from the end of each, whatever number of steps is allowed, as long as it is enough.
use Rattle.outer.specs.declared.File.{File}
use Prim.Native.Nat.{ℕ, suc, ◌+◌, ◌≤◌, ◌<◌}
use mathlib.Core.Path.{◌≡◌, ap, sym, ◌∙◌}
use mathlib.Core.Bool.{true, false}
use mathlib.Core.List.{List, [], ◌∷◌}
use native.Mathlib.Omega.{arith}
use borrow.Author.Tests.{le-leb, lt-leb}
use lib.Dec.{leb}
use lib.ListN.{length, get_or}
use Rattle.refusal.specs.Numbers.{Why}
use Rattle.tlv.specs.declared.Stretch.{Stretch}
use Rattle.tlv.specs.Read.{Read, value, refusal, and_then, outcome_in}
use Rattle.tlv.specs.Element.{element}
use Rattle.tlv.proofs.Steps.{steps_enough}
use Rattle.tlv.proofs.Joined.{kept_value, told_then}
use Rattle.tlv.proofs.Past.{value_within}
use Rattle.tlv.specs.Tags.{is_group}
use Rattle.outer.specs.Outer.{file_at, files_from, files}

-- the element that a file is, and its group
file_there : (w : List ℕ) (at : ℕ) (v : Stretch) → file_at w at ≡ value v
    → (is_group (get_or w at 0) ≡ true) × (element w at (get_or w at 0) ≡ value v)
unfolding file_at
file_there w at v e = kept_value (is_group (get_or w at 0)) (element w at (get_or w at 0)) _ at v e

pub group_there : (w : List ℕ) (at : ℕ) (v : Stretch) → file_at w at ≡ value v → is_group (get_or w at 0) ≡ true
group_there w at v e = (file_there w at v e).0

-- a file ends behind its start
pub file_behind : (w : List ℕ) (at : ℕ) (v : Stretch) → file_at w at ≡ value v → (at < v.to) × (v.to ≤ length w)
file_behind w at v e = let k = value_within w at (get_or w at 0) v (file_there w at v e).1 in (omega (arith, k.0, k.1), k.2)

-- a file before those that follow it
unfoldable pub before : ℕ → Stretch → Read (List File) → Read (List File)
before at v rest = and_then rest (λ fs. value (record { start = at; held = v } ∷ fs))

-- what comes at a place, by what stands there
module _ (w : List ℕ) (at : ℕ) (here : at < length w) where
  some_left : leb (length w) at ≡ false
  some_left = lt-leb (length w) at here

  files_more : (k : ℕ) (v : Stretch) → file_at w at ≡ value v → files_from (suc k) w at ≡ before at v (files_from k w v.to)
  unfolding files_from and_then before
  files_more k v e = rw (some_left, e)

  files_stop : (k : ℕ) (n : Why) (p : ℕ) → file_at w at ≡ refusal n p → files_from (suc k) w at ≡ refusal n p
  unfolding files_from and_then
  files_stop k n p e = rw (some_left, e)

files_end : (k : ℕ) (w : List ℕ) (at : ℕ) → length w ≤ at → files_from (suc k) w at ≡ value []
unfolding files_from
files_end k w at h = rw (le-leb (length w) at h)

-- any number of steps that is enough gives the same
files_enough : (k m : ℕ) (w : List ℕ) (at : ℕ) → length w ≤ at + k → length w ≤ at + m
    → files_from (suc k) w at ≡ files_from (suc m) w at
files_enough k m w at a b =
    steps_enough
    (length w)
    (file_at w)
    (λ v. v.to)
    before
    (value [])
    (λ i p. files_from (suc i) w p)
    (λ i p. files_end i w p)
    (λ i p v h. files_more w p h (suc i) v)
    (λ i p x y h. files_stop w p h (suc i) x y)
    (λ p v e. (file_behind w p v e).0)
    k
    m
    at
    a
    b

-- ---- what a loop goes by

pub files_next : (w : List ℕ) (at : ℕ) (v : Stretch) → at < length w → file_at w at ≡ value v
    → files w at ≡ before at v (files w v.to)
unfolding files
files_next w at v h e =
    files_enough (length w) (suc (length w)) w at (omega arith) (omega arith) ∙ files_more w at h (suc (length w)) v e

pub files_refused : (w : List ℕ) (at : ℕ) (n : Why) (p : ℕ) → at < length w → file_at w at ≡ refusal n p
    → files w at ≡ refusal n p
unfolding files
files_refused w at n p h e =
    files_enough (length w) (suc (length w)) w at (omega arith) (omega arith) ∙ files_stop w at h (suc (length w)) n p e

pub files_done : (w : List ℕ) (at : ℕ) → length w ≤ at → files w at ≡ value []
unfolding files
files_done w at h = files_end (length w) w at h

pub told_next : (w : List ℕ) (at : ℕ) (v : Stretch) → at < length w → file_at w at ≡ value v
    → outcome_in (files w v.to) ≡ outcome_in (files w at)
unfolding before
told_next w at v h e = sym (ap outcome_in (files_next w at v h e) ∙ told_then (files w v.to)
    (λ fs. record { start = at; held = v } ∷ fs))

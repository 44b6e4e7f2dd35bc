-- The laws of stretches.
use Prim.Native.Nat.{ℕ, ◌+◌, ◌-◌, ◌≤◌, ◌<◌}
use mathlib.Core.Path.{◌≡◌, refl, sym}
use mathlib.Core.Bool.{Bool, true, false}
use mathlib.Core.List.{List}
use native.Mathlib.Omega.{arith}
use borrow.Author.Tests.{eq-eqb, ne_eqb, eqb-true, eqb-false}
use lib.Dec.{eqb}
use lib.ListN.{length, take, drop, length-take, length-drop}
use Rattle.tlv.specs.declared.Stretch.{Stretch}
use Rattle.tlv.specs.Cut.{cut, has_octets}

pub has_within : (n : ℕ) (v : Stretch) → v.from ≤ v.to → eqb (v.to - v.from) n ≡ has_octets n v
unfolding has_octets
has_within n v h = go (eqb (v.to - v.from) n) refl
  where
    go : (b : Bool) → eqb (v.to - v.from) n ≡ b → b ≡ eqb (v.from + n) v.to
    go true e =
        let k : v.to - v.from ≡ n = eqb-true (v.to - v.from) n e in
        sym (eq-eqb (v.from + n) v.to (omega arith))
    go false e =
        let k : v.to - v.from ≡ n → ⊥ = eqb-false (v.to - v.from) n e in
        sym (ne_eqb (v.from + n) v.to (λ q. k (omega arith)))

pub has_without : (n : ℕ) (v : Stretch) → v.to < v.from → false ≡ has_octets n v
unfolding has_octets
has_without n v h = sym (ne_eqb (v.from + n) v.to (λ q. omega arith))

pub cut_without : (s : List ℕ) (v : Stretch) → v.to < v.from → take 0 (drop v.from s) ≡ cut s v
unfolding cut
cut_without s v h = let z : v.to - v.from ≡ 0 = omega arith in rw z

-- its octets stand where places can be told
pub cut_fits : (s : List ℕ) (v : Stretch) (m : ℕ) → v.from < m → length s < m → v.from + length (cut s v) < m
unfolding cut
cut_fits s v m a b = rw (length-take, length-drop) (omega arith)

-- and end within what holds them
pub cut_within : (s : List ℕ) (v : Stretch) → v.from ≤ length s → v.from + length (cut s v) ≤ length s
unfolding cut
cut_within s v h = rw (length-take, length-drop) (omega arith)

-- A table with a mark for each number that stands in a list, by which a repeated one is found.
use Prim.Native.Nat.{ℕ, ◌<◌}
use mathlib.Core.Path.{◌≡◌, refl, ap, ◌∙◌}
use mathlib.Core.Bool.{Bool, true, false, not, ◌||◌}
use mathlib.Core.List.{List, [], ◌∷◌}
use native.Mathlib.Omega.{arith}
use borrow.Author.Tests.{eq-eqb, ne_eqb, eqb-true, eqb-false}
use lib.Dec.{eqb}
use lib.ListN.{length, get_or, set, replicate, get_or-replicate}
use lib.Seq.{get_or-set_same, get_or-set_other}
use Rattle.lent.specs.Octets.{stands}

-- a table has marks where the numbers of a list stand, and nowhere else
unfoldable pub Marks : (width : ℕ) → List ℕ → List ℕ → Type 0
Marks width table before = (c : ℕ) → c < width → stands c before ≡ not (eqb (get_or table c 0) 0)

pub none_marked : (width : ℕ) → Marks width (replicate width 0) []
unfolding Marks stands
none_marked width c h = rw (get_or-replicate {A = ℕ} width c 0 0 h)

pub one_marked : (width : ℕ) (table before : List ℕ) (d m : ℕ) → Marks width table before → length table ≡ width → d < width
    → 0 < m → Marks width (set table d m) (d ∷ before)
unfolding Marks stands
one_marked width table before d m marks len hd hm c h = go (eqb c d) refl
  where
    go : (b : Bool) → eqb c d ≡ b → b || stands c before ≡ not (eqb (get_or (set table d m) c 0) 0)
    go true e =
        let q : c ≡ d = eqb-true c d e in
        let k : d < length table = omega arith in
        rw (q, get_or-set_same table d m 0 k, ne_eqb m 0 (λ z. omega arith))
    go false e = rw (get_or-set_other table d c m 0 (eqb-false c d e)) (marks c h)

pub unmarked : (width : ℕ) (table before : List ℕ) (d : ℕ) → Marks width table before → d < width → get_or table d 0 ≡ 0
    → stands d before ≡ false
unfolding Marks
unmarked width table before d marks h e = marks d h ∙ ap not (eq-eqb (get_or table d 0) 0 e)

pub marked : (width : ℕ) (table before : List ℕ) (d : ℕ) → Marks width table before → d < width → (get_or table d 0 ≡ 0 → ⊥)
    → stands d before ≡ true
unfolding Marks
marked width table before d marks h e = marks d h ∙ ap not (ne_eqb (get_or table d 0) 0 e)

-- `alike` and `stands` are what the library's `==` and `contains` say of octets.
use Prim.Native.Nat.{ℕ}
use mathlib.Core.Path.{◌≡◌, refl, ap}
use mathlib.Core.Bool.{◌&&◌}
use mathlib.Core.List.{List, [], ◌∷◌}
use lib.Dec.{eqb}
use lib.Pointwise.{pointwise}
use Rattle.std.proofs.lemmas.Cmp.{nat_eq_equiv}
use Rattle.std.specs.List.{list_any}
use Rattle.lent.specs.Octets.{alike, stands}

pub pointwise_alike : (a b : List ℕ) → pointwise eqb a b ≡ alike a b
unfolding alike
pointwise_alike [] [] = refl
pointwise_alike [] (d ∷ t) = refl
pointwise_alike (c ∷ s) [] = refl
pointwise_alike (c ∷ s) (d ∷ t) = ap (λ r. eqb c d && r) (pointwise_alike s t)

pub any_stands : (c : ℕ) (s : List ℕ) → list_any (λ y. eqb y c) s ≡ stands c s
unfolding stands
any_stands c [] = refl
any_stands c (d ∷ t) = rw (any_stands c t, nat_eq_equiv.symm d c)

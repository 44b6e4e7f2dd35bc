-- Nothing stands twice: a walk that keeps what stood before passes exactly the lists in which none repeats another.
use Prim.Native.Nat.{ℕ}
use mathlib.Core.Path.{◌≡◌, refl, ap, sym, ◌∙◌}
use mathlib.Core.Bool.{Bool, true, false, not, ◌&&◌, ◌||◌, false≢true}
use mathlib.Core.List.{List, [], ◌∷◌}
use mathlib.Core.Logic.{◌⊎◌, inl, inr}
use borrow.Author.Tests.{eqb-true, eq-eqb, ne_eqb, not-true}
use lib.Dec.{eqb}
use Rattle.lent.proofs.Bools.{and_both, both_and, or_either, not_so, or_neither}
use Rattle.lent.specs.Octets.{stands}
use Rattle.presentation_theorems.specs.Presented.{is_once}

-- none of a list stands among others
unfoldable pub Apart : List ℕ → List ℕ → Type 0
Apart before l = (d : ℕ) → stands d l ≡ true → stands d before ≡ false

-- one by one, none among those before it
unfoldable pub once_after : List ℕ → List ℕ → Bool
once_after before [] = true
once_after before (c ∷ t) = not (stands c before) && once_after (c ∷ before) t

stands_first : (c : ℕ) (t : List ℕ) → stands c (c ∷ t) ≡ true
unfolding stands
stands_first c t = rw (eq-eqb c c refl)

pub stands_later : (d c : ℕ) (t : List ℕ) → stands d t ≡ true → stands d (c ∷ t) ≡ true
unfolding stands
stands_later d c t e = rw e (go (eqb d c))
  where
    go : (b : Bool) → b || true ≡ true
    go true = refl
    go false = refl

pub once_apart : (before l : List ℕ) → once_after before l ≡ true → (is_once l ≡ true) × Apart before l
unfolding once_after is_once Apart stands
once_apart before [] e = (refl, λ d h. absurd (false≢true h))
once_apart before (c ∷ t) e =
    let both = and_both (not (stands c before)) (once_after (c ∷ before) t) e in
    let rest = once_apart (c ∷ before) t both.1 in
    (both_and (not_so (stands c t) (none rest.1)) rest.0, apart (not-true (stands c before) both.0) rest.1)
  where
    none : ((d : ℕ) → stands d t ≡ true → stands d (c ∷ before) ≡ false) → stands c t ≡ false
    none h = go (stands c t) refl
      where
        go : (b : Bool) → stands c t ≡ b → b ≡ false
        go true f = absurd (false≢true (sym (h c f) ∙ stands_first c before))
        go false f = refl

    apart : stands c before ≡ false → ((d : ℕ) → stands d t ≡ true → stands d (c ∷ before) ≡ false) → (d : ℕ)
        → stands d (c ∷ t) ≡ true → stands d before ≡ false
    apart f h d g = go (or_either (eqb d c) (stands d t) g)
      where
        go : (eqb d c ≡ true) ⊎ (stands d t ≡ true) → stands d before ≡ false
        go (inl k) = rw (eqb-true d c k) f
        go (inr k) = (or_neither (eqb d c) (stands d before) (h d k)).1

pub apart_once : (before l : List ℕ) → is_once l ≡ true → Apart before l → once_after before l ≡ true
unfolding once_after is_once Apart stands
apart_once before [] e h = refl
apart_once before (c ∷ t) e h =
    let both = and_both (not (stands c t)) (is_once t) e in
    both_and (not_so (stands c before) (h c (stands_first c t)))
    (apart_once (c ∷ before) t both.1 (later (not-true (stands c t) both.0)))
  where
    later : stands c t ≡ false → (d : ℕ) → stands d t ≡ true → stands d (c ∷ before) ≡ false
    later f d g = rw (ne_eqb d c (λ k. false≢true (sym f ∙ ap (λ (x : ℕ). stands x t) (sym k) ∙ g)))
        (h d (stands_later d c t g))

pub once_none : (l : List ℕ) → once_after [] l ≡ true → is_once l ≡ true
once_none l e = (once_apart [] l e).0

pub none_once : (l : List ℕ) → is_once l ≡ true → once_after [] l ≡ true
unfolding Apart stands
none_once l e = apart_once [] l e (λ d h. refl)

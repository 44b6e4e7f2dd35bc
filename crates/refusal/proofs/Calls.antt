-- The numbers of calls: a call that tells more tells these too; what a call does not tell, no refusal of it is; and a plain
-- refusal is not 9.
use Prim.Native.Nat.{ℕ}
use mathlib.Core.Path.{◌≡◌, refl, ap, sym, ◌∙◌}
use mathlib.Core.Bool.{Bool, true, false, not, ◌&&◌, ◌||◌, false≢true}
use mathlib.Core.List.{List, [], ◌∷◌}
use borrow.Author.Tests.{eqb-true, ne_eqb}
use lib.Dec.{eqb}
use Rattle.refusal.specs.Numbers.{Why, by, expecting, number_of}
use Rattle.refusal.specs.Calls.{is_of, tells, entered}

-- a refusal that a call tells has one of its numbers
pub told_of : (numbers : List ℕ) (why : Why) → tells numbers why ≡ true → is_of numbers (number_of why) ≡ true
told_of numbers (by n) h = first (is_of numbers n) (not (eqb n 9)) h
  where
    first : (a b : Bool) → a && b ≡ true → a ≡ true
    first true b e = refl
    first false b e = e
told_of numbers (expecting d) h = h

-- so it has none of the others
pub never_of : (numbers : List ℕ) (n k : ℕ) → is_of numbers n ≡ true → is_of numbers k ≡ false → n ≡ k → ⊥
never_of numbers n k h other same = false≢true (sym other ∙ ap (is_of numbers) (sym same) ∙ h)

pub never_told : (numbers : List ℕ) (why : Why) (k : ℕ) → tells numbers why ≡ true → is_of numbers k ≡ false → number_of why ≡ k
    → ⊥
never_told numbers why k h = never_of numbers (number_of why) k (told_of numbers why h)

-- and a plain one is not 9
pub plain_not_nine : (numbers : List ℕ) (n : ℕ) → tells numbers (by n) ≡ true → n ≡ 9 → ⊥
plain_not_nine numbers n h nine = go (is_of numbers 9) (rw nine at h)
  where
    go : (a : Bool) → a && false ≡ true → ⊥
    go true e = false≢true e
    go false e = false≢true e

-- a number that a call tells, whatever else it tells
also_of : (a b : Bool) → b ≡ true → a || b ≡ true
also_of true b e = refl
also_of false b e = e

pub entered_of : (reader : List ℕ) (n : ℕ) → is_of reader n ≡ true → is_of (entered reader) n ≡ true
entered_of reader n h = also_of (eqb n 16) _ (also_of (eqb n 17) _ h)

-- ---- calls of which one tells all that the other does

abbrev pub is_within : (these those : List ℕ) → Bool
is_within [] those = true
is_within (m ∷ ms) those = is_of those m && is_within ms those

of_within : (these those : List ℕ) → is_within these those ≡ true → (n : ℕ) → is_of these n ≡ true → is_of those n ≡ true
of_within [] those w n h = absurd (false≢true h)
of_within (m ∷ ms) those w n h = go (eqb n m) refl h (is_of those m) refl w (λ v q. of_within ms those v n q)
  where
    go : (a : Bool) → eqb n m ≡ a → a || is_of ms n ≡ true → (b : Bool) → is_of those m ≡ b → b && is_within ms those ≡ true
        → (is_within ms those ≡ true → is_of ms n ≡ true → is_of those n ≡ true) → is_of those n ≡ true
    go true e q true f v rest = ap (is_of those) (eqb-true n m e) ∙ f
    go false e q true f v rest = rest v q
    go a e q false f v rest = absurd (false≢true v)

pub tells_within : (these those : List ℕ) → is_within these those ≡ true → (why : Why) → tells these why ≡ true
    → tells those why ≡ true
tells_within these those w (by n) h = go (is_of these n) refl h
  where
    go : (a : Bool) → is_of these n ≡ a → a && not (eqb n 9) ≡ true → is_of those n && not (eqb n 9) ≡ true
    go true e q = rw (of_within these those w n e) q
    go false e q = absurd (false≢true q)
tells_within these those w (expecting d) h = of_within these those w 9 h

-- all but one, where it is not that one
pub tells_but : (numbers : List ℕ) (k : ℕ) (why : Why) → tells (k ∷ numbers) why ≡ true → (number_of why ≡ k → ⊥)
    → tells numbers why ≡ true
tells_but numbers k (by n) h other = rw (ne_eqb n k other) at h
tells_but numbers k (expecting d) h other = rw (ne_eqb 9 k other) at h

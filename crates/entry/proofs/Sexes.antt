-- The codes of sexes tell them.
use Prim.Native.Nat.{ℕ, zero, suc, ◌<◌}
use mathlib.Core.Path.{◌≡◌, refl, sym}
use mathlib.Core.Bool.{Bool, true, false, false≢true}
use native.Mathlib.Omega.{arith}
use borrow.Author.Tests.{eqb-true}
use lib.Dec.{eqb}
use Prim.Native.Char.{code}
use Rattle.zone.specs.Alphabet.{is_filler, filler}
use Rattle.field.specs.Letters.{sex_rule}
use Rattle.entry.specs.Codes.{sex_code, sex_by}

pub sex_tells : (c : ℕ) → sex_rule c ≡ true → (sex_by (sex_code c) ≡ c) × (sex_code c < 4)
unfolding sex_rule sex_by sex_code is_filler
sex_tells c e = go (eqb c (code "F")) refl (eqb c (code "M")) refl (eqb c filler) refl
  where
    go : (a : Bool) → eqb c (code "F") ≡ a → (b : Bool) → eqb c (code "M") ≡ b → (d : Bool) → eqb c filler ≡ d
        → (sex_by (sex_code c) ≡ c) × (sex_code c < 4)
    go true p b q d r = (rw p (sym (eqb-true c (code "F") p)), rw p (omega arith))
    go false p true q d r = (rw (p, q) (sym (eqb-true c (code "M") q)), rw (p, q) (omega arith))
    go false p false q true r = (rw (p, q) (sym (eqb-true c filler r)), rw (p, q) (omega arith))
    go false p false q false r = absurd (false≢true (rw (p, q, r) at e))

pub tells_sex : (n : ℕ) → n < 4 → sex_rule (sex_by n) ≡ true → sex_code (sex_by n) ≡ n
unfolding sex_rule sex_by sex_code is_filler
tells_sex zero h e = refl
tells_sex (suc zero) h e = refl
tells_sex (suc (suc zero)) h e = refl
tells_sex (suc (suc (suc zero))) h e = absurd (false≢true e)
tells_sex (suc (suc (suc (suc n)))) h e = absurd (omega arith)

-- What two characters say is known where both are digits.
use Prim.Native.Nat.{ℕ, ◌+◌, ◌*◌, ◌-◌}
use Prim.Native.Char.{code}
use mathlib.Core.Path.{◌≡◌, refl}
use mathlib.Core.Bool.{Bool, true, false, cond, ◌&&◌}
use Rattle.zone.specs.Alphabet.{is_digit, is_filler}
use Rattle.field.specs.Date.{pair_of, is_known}
use Rattle.field.specs.declared.date.Pair.TheVariants.{Known, Unknown, Neither}

pub known_digits : (a b : ℕ) → is_digit a && is_digit b ≡ is_known (pair_of a b)
unfolding pair_of is_known
known_digits a b = go (is_digit a) (is_digit b) (is_filler a && is_filler b)
  where
    go : (p q r : Bool)
        → p && q
        ≡ is_known (cond p (cond q (Known ((a - code "0") * 10 + (b - code "0"))) Neither) (cond r Unknown Neither))
    go true true r = refl
    go true false r = refl
    go false q true = refl
    go false q false = refl

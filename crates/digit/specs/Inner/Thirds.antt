-- A field's characters by thirds.
use Rattle.std.specs.Prelude.{ℕ, ◌+◌, ◌*◌, ◌%◌, ◌<◌, ◌≡◌, List, [], ◌∷◌, get_or}
use Prim.Native.Char.{code}
use Rattle.digit.specs.Check.{value, weight}
use Rattle.digit.specs.declared.thirds.Thirds.{Thirds}

-- what stands at every third place counts together, from each of the first three on, by what each counts
unfoldable pub thirds_by : (ℕ → ℕ) → List ℕ → Thirds
thirds_by count [] = record { first = 0; second = 0; third = 0 }
thirds_by count (c ∷ s) = record {
  first = count c + (thirds_by count s).third;
  second = (thirds_by count s).first;
  third = (thirds_by count s).second;
}

-- of characters
abbrev pub thirds_of : List ℕ → Thirds
thirds_of s = thirds_by value s

-- of what characters count, where that was worked out before
abbrev pub thirds_in : List ℕ → Thirds
thirds_in s = thirds_by (λ n. n) s

-- what each place of a text counts, 0 past its end
abbrev pub Counts : List ℕ → List ℕ → Type 0
Counts t counts = (i : ℕ) → i < 90 → get_or counts i 0 ≡ value (get_or t i 0)

-- their sum, with weights that start at a place
unfoldable pub weighed : Thirds → ℕ → ℕ
weighed t place = t.first * weight place + t.second * weight (place + 1) + t.third * weight (place + 2)

-- a sum written as a digit
unfoldable pub as_digit : ℕ → ℕ
as_digit sum = code "0" + sum % 10

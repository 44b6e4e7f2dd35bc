-- C40 has no filler: document 02, 2026-08, "spaces become fillers".
use Rattle.std.specs.Prelude.{ℕ, cond, List, map, eqb}
use Rattle.zone.specs.Alphabet.{is_filler, filler}
use Rattle.c40.specs.Values.{space}

unfoldable pub filled : List ℕ → List ℕ
filled t = map (λ (c : ℕ). cond (eqb c space) filler c) t

-- a text in the characters of C40: "spaces become fillers" where it is read
unfoldable pub spaced : List ℕ → List ℕ
spaced t = map (λ (c : ℕ). cond (is_filler c) space c) t

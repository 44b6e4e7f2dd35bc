-- No part of FIPS 180-4: the schedule in a ring of sixteen words. W_t stands at place t modulo 16, until the word sixteen after
-- it takes the place.
use Rattle.std.specs.Prelude.{List, ℕ, zero, suc, ◌+◌, ◌%◌, get_or, set}
use Rattle.sha256_words.specs.Words.{◌⊞◌}
use Rattle.sha256_words.specs.Functions.{σ0, σ1}

-- the word sixteen after the one at place i
unfoldable pub follower : ℕ → List ℕ → ℕ
follower i w =
    σ1 (get_or w ((i + 14) % 16) 0) ⊞ get_or w ((i + 9) % 16) 0 ⊞ σ0 (get_or w ((i + 1) % 16) 0) ⊞ get_or w i 0

-- n of them in their places, from i on
unfoldable pub rolled : ℕ → ℕ → List ℕ → List ℕ
rolled zero i w = w
rolled (suc n) i w = rolled n (suc i) (set w i (follower i w))

-- A test of octets as a table of its answers.
use Rattle.std.specs.Prelude.{ℕ, ◌≡◌, ◌<◌, Bool, false, List, get_or}

-- the answer in each place is the one to that octet
abbrev pub IsTableOf : List Bool → (ℕ → Bool) → Type 0
IsTableOf answers test = (c : ℕ) → c < 256 → get_or answers c false ≡ test c

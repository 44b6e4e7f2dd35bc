-- No words of the paper: units of six bits, each in an octet of its own, packed to octets.
use Rattle.std.specs.Prelude.{ℕ, zero, suc, ◌+◌, ◌-◌, ◌*◌, ◌/◌, ◌%◌, ◌^◌, cond, List, [], ◌∷◌, leb, ltb, length, drop, get_or}
use Rattle.lent.specs.Copied.{copied}

-- the number that four units say
abbrev pub four : (a b c d : ℕ) → ℕ
four a b c d = ((a * 64 + b) * 64 + c) * 64 + d

unfoldable pub four_at : List ℕ → ℕ → ℕ
four_at s at = four (get_or s at 0) (get_or s (at + 1) 0) (get_or s (at + 2) 0) (get_or s (at + 3) 0)

-- and the same j bits on: with the first j bits of the next unit behind them
unfoldable pub four_on : (j : ℕ) → List ℕ → ℕ → ℕ
four_on j s at = four_at s at * 2 ^ j + get_or s (at + 4) 0 % 64 / 2 ^ (6 - j)

-- k times four units are three octets each. What is j bits on begins behind the first j bits
unfoldable pub packed : (j k : ℕ) → List ℕ → List ℕ
packed j zero s = []
packed j (suc k) s =
    (four_on j s 0 / 65536 % 256) ∷ (four_on j s 0 / 256 % 256) ∷ (four_on j s 0 % 256) ∷ packed j k (drop 4 s)

-- how many bits the rest of an entry is on: those of a unit that its first number, a length of five bits, does not have
abbrev pub on : ℕ
on = 1

-- what a range holds afterwards; where there is no room, what it held
unfoldable pub packed_over : (k : ℕ) (out s : List ℕ) → List ℕ
packed_over k out s = cond (leb k (length s / 4)) (cond (leb k (length out / 3)) (copied out (packed 0 k s)) out) out

unfoldable pub packed_on_over : (k : ℕ) (out s : List ℕ) → List ℕ
packed_on_over k out s = cond (ltb k (length s / 4)) (cond (leb k (length out / 3)) (copied out (packed on k s)) out) out

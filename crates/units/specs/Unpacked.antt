-- No words of the paper: bits, and characters of six bits each, as they are read from any bit of a range on.
use Rattle.std.specs.Prelude.{ℕ, ◌+◌, ◌-◌, ◌*◌, ◌/◌, ◌%◌, cond, List, map, leb, ltb, length}
use Rattle.lent.specs.Copied.{copied}
use Rattle.zone.specs.Codes.{character_of}
use Rattle.cells.specs.Bits.{bits_at}
use Rattle.cells.specs.Cells.{numbers_at}

-- w bits where two octets hold them, else 0
unfoldable pub bits_within : List ℕ → (k w : ℕ) → ℕ
bits_within s k w = cond (leb w (16 - k % 8)) (bits_at s k w) 0

-- the n characters from the k-th bit on
abbrev pub characters_at : List ℕ → (k n : ℕ) → List ℕ
characters_at s k n = map character_of (numbers_at s k n 6)

-- what a range holds after so many fours were unpacked to its front; where there is no room or they end too soon, what it held
unfoldable pub unpacked_over : (at fours : ℕ) (to s : List ℕ) → List ℕ
unpacked_over at fours to s =
    cond (leb fours (length to / 4))
    (cond (ltb (at / 8 + 3 * fours) (length s)) (copied to (characters_at s at (4 * fours))) to) to

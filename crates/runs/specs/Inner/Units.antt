-- No words of the paper: units of six bits, each in an octet of its own, as an entry is read.
use Rattle.std.specs.Prelude.{ℕ, ◌+◌, ◌-◌, ◌*◌, ◌<◌, ◌≡◌, List, take, replicate}
use Rattle.lent.specs.Copied.{copied, copied_at}
use Rattle.zone.specs.Part as text
use Rattle.zone.specs.Alphabet.{filler}
use Rattle.cells.specs.Bits.{bits_at}
use Rattle.cells.specs.Cells.{rounded_up, spare_bits}
use Rattle.units.specs.Unpacked.{characters_at}
use Rattle.entry.specs.Row.{start}
use Rattle.packing.specs.Packed.{on}
use Rattle.entry.specs.Inner.Units.{front_octets, front_units, rest_fours}

-- the length of the data, where that of the name stands behind data of m characters, and what it is
abbrev pub own_length : List ℕ → ℕ
own_length s = bits_at s (start text.own) 5

abbrev pub name_at : ℕ → ℕ
name_at m = start text.own + 5 + 6 * m

abbrev pub name_length : List ℕ → ℕ
name_length s = bits_at s (name_at (own_length s)) 6

-- two lengths that an entry tells
abbrev pub Told : List ℕ → (m n : ℕ) → Type 0
Told s m n = (m < 32) × (n < 64) × (m ≡ own_length s) × (n ≡ name_length s)

-- with so many characters of both, where the entry ends, its octets and its spare bits
abbrev pub end_by : ℕ → ℕ
end_by n = start text.own + 11 + 6 * n

abbrev pub size_by : ℕ → ℕ
size_by n = rounded_up (end_by n)

abbrev pub spare_by : ℕ → ℕ
spare_by n = spare_bits (end_by n)

-- room for every two lengths that five bits and six say
abbrev pub most_fours : ℕ
most_fours = 24

abbrev pub all_units : ℕ
all_units = front_units + 4 * most_fours

abbrev pub all_octets : ℕ
all_octets = front_octets + 3 * most_fours + 2

-- where the units of the rest begin: the first bit of the first is none of its own
abbrev pub rest_start : ℕ
rest_start = start text.own - on

-- the octets of an entry with n characters of both, and zeros behind them
unfoldable pub held : List ℕ → ℕ → List ℕ
held s n = copied (replicate all_octets 0) (take (size_by n) s)

-- the characters of octets, unit by unit, over what stood there: the front's, and then those of a rest with n
unfoldable pub units_over : List ℕ → List ℕ → ℕ → List ℕ
units_over to octets n =
    copied_at (copied to (characters_at octets 0 front_units)) front_units
    (characters_at octets rest_start (4 * rest_fours n))

-- those of an entry, and fillers behind them
unfoldable pub units_in : List ℕ → ℕ → List ℕ
units_in s n = units_over (replicate all_units filler) (held s n) n

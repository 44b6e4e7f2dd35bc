-- No words of the paper: units of six bits, each in an octet of its own, in which an entry is written.
use Rattle.std.specs.Prelude.{ℕ, ◌+◌, ◌-◌, ◌*◌, ◌/◌, ◌%◌, List, [], ◌∷◌, ◌++◌, map, take, replicate}
use Rattle.lent.specs.Copied.{copied_at}
use Rattle.zone.specs.Part as text
use Rattle.zone.specs.Alphabet.{filler}
use Rattle.zone.specs.Codes.{code_of}
use Rattle.zone.specs.Rooms.{own_room, name_room}
use Rattle.zone.specs.declared.record.Record.{Record}
use Rattle.cells.specs.Cells.{row_bits, rounded_up}
use Rattle.entry.specs.Codes.{form_code, sex_code}
use Rattle.entry.specs.Row.{row, cells, start}

-- the front: the parts before the issuer's own data, whole octets
abbrev pub front_octets : ℕ
front_octets = start text.own / 8

-- its units by fours
abbrev pub front_fours : ℕ
front_fours = front_octets / 3 + 1

abbrev pub front_units : ℕ
front_units = 4 * front_fours

-- the unit at which a part of the front begins
abbrev pub unit_of : text.Part → ℕ
unit_of x = start x / 6

-- the units behind those that the sex begins with
abbrev pub gap : ℕ
gap = front_units - unit_of text.sex - 1

-- the fours of a rest with k characters of data and name, with a length before each
abbrev pub rest_fours : ℕ → ℕ
rest_fours k = (k + 5) / 4

-- enough for the longest, with one four behind it
abbrev pub rest_units : ℕ
rest_units = 4 * (rest_fours (own_room + name_room) + 1)

abbrev pub all_units : ℕ
all_units = front_units + rest_units

abbrev pub all_octets : ℕ
all_octets = all_units / 4 * 3

-- the octets of an entry with k characters of data and name
abbrev pub size_by : ℕ → ℕ
size_by k = rounded_up (row_bits (cells row) (0 ∷ 0 ∷ []) + 6 * k)

-- the characters before the sex, in the order of the row
unfoldable pub before : Record → List ℕ
before r = r.state ++ (r.number ++ (r.birth ++ (r.expiry ++ (r.code ++ r.nationality))))

-- house and form are three units, the sex two bits of one
unfoldable pub front : ℕ → Record → List ℕ
front house r =
    let head = house * 8 + form_code r.form in
    (head / 4096) ∷ (head / 64 % 64) ∷ (head % 64) ∷ (map code_of (before r) ++ (sex_code r.sex * 16 ∷ replicate gap 0))

-- the units behind the room of the name
abbrev pub spare : Record → ℕ
spare r = rest_units - name_room - 2 - r.own_len

-- the rest: the length of the data and their characters, the name's, and fillers
unfoldable pub rest : Record → List ℕ
rest r =
    r.own_len ∷ (map code_of (take r.own_len r.own)
    ++ (r.name_len ∷ map code_of (r.name ++ replicate (spare r) filler)))

unfoldable pub units_of : ℕ → Record → List ℕ
units_of house r = front house r ++ rest r

-- the same places with the characters alone
unfoldable pub placed : Record → List ℕ
placed r =
    replicate (unit_of text.state) filler ++ (before r ++ (replicate (gap + 2) filler
    ++ (take r.own_len r.own ++ (filler ∷ (r.name ++ replicate (spare r) filler)))))

-- copied there, field by field
unfoldable pub placed_key : Record → List ℕ → List ℕ
placed_key r t =
    copied_at (copied_at (copied_at (copied_at t (unit_of text.state) r.state) (unit_of text.number) r.number)
    (unit_of text.birth) r.birth) (unit_of text.expiry) r.expiry

unfoldable pub placed_after_key : Record → List ℕ → List ℕ
placed_after_key r t = copied_at (copied_at t (unit_of text.code) r.code) (unit_of text.nationality) r.nationality

unfoldable pub placed_rest : Record → List ℕ → List ℕ
placed_rest r t =
    copied_at (copied_at t (front_units + 1) (take r.own_len r.own)) (front_units + 2 + r.own_len) r.name

-- The room that a record has for each field: the width that every form gives it in its layout, and of the number, the name and
-- the issuer's own data the most that any form allows.
use Rattle.std.specs.Prelude.{ℕ}

abbrev pub code_room : ℕ
code_room = 2

-- also a nationality's
abbrev pub state_room : ℕ
state_room = 3

abbrev pub date_room : ℕ
date_room = 6

-- the number's own field, the nine, and the further characters of a long number
abbrev pub nine : ℕ
nine = 9

abbrev pub further : ℕ
further = 13

abbrev pub number_room : ℕ
number_room = 22

abbrev pub name_room : ℕ
name_room = 39

abbrev pub own_room : ℕ
own_room = 16

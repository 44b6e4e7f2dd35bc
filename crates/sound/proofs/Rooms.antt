-- The room that each field of a record has by its type, and the characters that a long number has behind its ninth.
use Prim.Native.Nat.{ℕ}
use mathlib.Core.Path.{◌≡◌}
use mathlib.Core.Bool.{true}
use mathlib.Core.List.{List}
use native.Mathlib.Omega.{arith}
use lib.ListN.{length, take, drop, length-take, length-drop}
use lib.Seq.{take_all}
use Rattle.zone.specs.Rooms.{code_room, state_room, date_room, nine, number_room, name_room, own_room}
use Rattle.zone.specs.declared.record.Record.{Record}
use Rattle.zone.specs.Record.{plain, held_rows}
use Rattle.sound.specs.Sound.{is_shaped}

pub shaped : (r : Record) → length r.code ≡ code_room → length r.state ≡ state_room → length r.number ≡ number_room
    → length r.nationality ≡ state_room → length r.birth ≡ date_room → length r.expiry ≡ date_room
    → length r.name ≡ name_room → length r.own ≡ own_room → is_shaped r ≡ true
unfolding is_shaped plain held_rows
shaped r code state number nationality birth expiry name own = rw (code, state, number, nationality, birth, expiry, name, own)

-- the characters from the tenth on are all that is left there
pub from_tenth : (n : ℕ) (s : List ℕ) → take (length s) (drop nine (take n (drop 0 s))) ≡ drop nine (take n s)
from_tenth n s = take_all (length s) (drop nine (take n s)) (rw (length-drop, length-take) (omega arith))

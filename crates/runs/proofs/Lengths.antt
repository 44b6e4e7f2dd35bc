-- The lengths of a record that is read, be it an entry's or the blank one: the number's room, and what six bits and five say.
use Rattle.std.specs.Prelude.{Option, Some, None}
use Prim.Native.Nat.{ℕ, ◌+◌, ◌<◌, ◌≤◌}
use mathlib.Core.List.{List}
use native.Mathlib.Omega.{arith}
use lib.Dec.{eqb, ltb}
use lib.ListN.{length, drop}
use Rattle.lent.proofs.Bools.{either_way}
use Rattle.zone.specs.Part as text
use Rattle.zone.specs.declared.form.Form.{Form}
use Rattle.zone.specs.declared.record.Record.{Record}
use Rattle.zone.specs.Rooms.{number_room}
use Rattle.zone.specs.Record.{blank, holding}
use Rattle.zone.proofs.Padded.{trimmed_le, trimmed_length_lem}
use Rattle.cells.proofs.Shifts.{bits_below}
use Rattle.entry.specs.Row.{start}
use Rattle.units.specs.Unpacked.{characters_at}
use Rattle.runs.specs.Inner.Units.{own_length, name_at, name_length}
use Rattle.runs.specs.Run.{Standing, said_of, record_of, record_in, form_in, is_entry, no_entry, entry_by, read_entry}
use Rattle.units.proofs.Reading.{length-characters}

pub record Short (r : Record) : Type 0 where
  pub number_short : r.number_len ≤ number_room
  pub name_short : r.name_len < 64
  pub own_short : r.own_len < 32

blank_short : Short blank
unfolding blank holding
blank_short = record { number_short = omega arith; name_short = omega arith; own_short = omega arith }

entry_short : (f : Form) (s : List ℕ) → Short (record_in f s)
unfolding record_in record_of holding said_of
entry_short f s =
    let number = characters_at s (start text.number) number_room in
    record {
      number_short = rw (trimmed_length_lem number)
          (rw (length-characters s (start text.number) number_room) at (trimmed_le number));
      name_short = rw (length-characters s (name_at (own_length s) + 6) (name_length s))
          (bits_below s (name_at (own_length s)) 6);
      own_short = rw (length-characters s (start text.own + 5) (own_length s)) (bits_below s (start text.own) 5);
    }

-- of what stands at an offset
abbrev ShortKept : Standing → Type 0
ShortKept x = Short x.kept

short_by : (o : Option Form) (s : List ℕ) (at : ℕ) → Short (entry_by o s at).kept
unfolding entry_by no_entry
short_by (Some f) s at = either_way ShortKept (is_entry f s) _ (no_entry at) (entry_short f s) blank_short
short_by None s at = blank_short

pub short_read : (w : List ℕ) (at : ℕ) → Short (read_entry w at).kept
unfolding read_entry no_entry
short_read w at =
    either_way ShortKept (eqb at (length w)) _ _ blank_short
    (either_way ShortKept (ltb (length w) at) (no_entry at) _ blank_short (short_by (form_in (drop at w)) (drop at w) at))

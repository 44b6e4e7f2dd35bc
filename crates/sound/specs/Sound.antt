-- The sound record: document 01, "It is sound if ..", and document 02, request 2026-06, of the issuer's own data.
use Rattle.std.specs.Prelude.{ℕ, Bool, not, ◌&&◌, List, length, take, drop, get_or, eqb, leb}
use Rattle.zone.specs.Alphabet.{is_character, is_filler, every}
use Rattle.zone.specs.Part.{name}
use Rattle.zone.specs.Rows.{all_rows}
use Rattle.zone.specs.Form.{width, longest, own_place}
use Rattle.zone.specs.Rooms.{nine, number_room, name_room, own_room}
use Rattle.zone.specs.Record.{trimmed_length, plain, held}
use Rattle.zone.specs.declared.record.Record.{Record}
use Rattle.field.specs.Letters.{name_rule}
use Rattle.field.specs.Rules.{rule}

-- each field has as many places as the record has for it; in the code its types say so
unfoldable pub is_shaped : Record → Bool
is_shaped r =
    all_rows (λ x room. eqb (length (held r x)) room) plain
    && (eqb (length r.number) number_room && (eqb (length r.name) name_room && eqb (length r.own) own_room))

-- code, state, nationality, birth, sex and expiry keep their rules
unfoldable pub keeps_rules : Record → Bool
keeps_rules r = all_rows (λ x room. rule r.form x (held r x)) plain

-- n characters, from so many to so many, that end in no filler, and fillers in every place past them
unfoldable pub is_held : (least most : ℕ) → List ℕ → ℕ → Bool
is_held least most s n = leb least n && (leb n most && (eqb (trimmed_length s) n))

-- no filler
unfoldable pub is_solid : ℕ → Bool
is_solid c = not (is_filler c)

-- does not begin with `<`; over nine characters, has none from its tenth character on
unfoldable pub is_number : List ℕ → ℕ → Bool
is_number s n = every is_character s && (is_solid (get_or s 0 0) && every is_solid (drop nine (take n s)))

unfoldable pub is_numbered : Record → Bool
is_numbered r = is_held 1 (longest r.form) r.number r.number_len && is_number r.number r.number_len

unfoldable pub is_named : Record → Bool
is_named r = is_held 1 (width r.form name) r.name r.name_len && name_rule r.name

-- "A sound record's data fits that place, holds only A-Z, 0-9 and `<`, and does not end in a filler"
unfoldable pub is_owned : Record → Bool
is_owned r = is_held 0 (own_place r.form r.number_len) r.own r.own_len && every is_character r.own

unfoldable pub is_sound : Record → Bool
is_sound r = is_shaped r && (keeps_rules r && (is_numbered r && (is_named r && is_owned r)))

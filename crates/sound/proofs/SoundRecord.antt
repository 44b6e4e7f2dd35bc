-- A sound record taken apart: its fields have the places of a record and keep their rules, and every character of theirs is of
-- the alphabet.
use Prim.Native.Nat.{ℕ, ◌≤◌}
use mathlib.Core.Path.{◌≡◌, refl}
use mathlib.Core.Bool.{true, ◌&&◌}
use mathlib.Core.List.{List, []}
use native.Mathlib.Nat.{le_trans}
use borrow.Author.Tests.{eqb-true, leb-true}
use lib.Dec.{eqb, leb}
use lib.ListN.{length, take, drop, get_or}
use Rattle.lent.proofs.Bools.{and_both}
use Rattle.zone.specs.Alphabet.{is_letter, is_character, every}
use Rattle.zone.specs.declared.record.Record.{Record}
use Rattle.zone.specs.Part.{Part, code, state, nationality, birth, sex, expiry, name}
use Rattle.zone.specs.Form.{width, longest, own_place}
use Rattle.zone.specs.Rooms.{nine, number_room, name_room, own_room}
use Rattle.zone.specs.Record.{trimmed_length, plain, plain_room, is_plain, held_rows, held, holding}
use Rattle.field.specs.Letters.{name_rule, is_name_character}
use Rattle.field.specs.Rules.{rule}
use Rattle.sound.specs.Sound.{is_sound, is_shaped, keeps_rules, is_held, is_solid, is_number, is_numbered, is_named, is_owned}
use Rattle.zone.proofs.Widths.{name_room_lem}
use Rattle.zone.proofs.Holding.{plain_passes, holding_held}
use Rattle.zone.proofs.Parts.{in_rows_lem, ◌and◌, all_said}
use Rattle.zone.proofs.Every.{every_take}
use Rattle.zone.proofs.Padded.{trimmed_le}
use Rattle.field.proofs.Characters.{plain_pure, name_pure}

-- ---- the record

pub record Sound (r : Record) : Type 0 where
  -- the fields of one width
  pub places : (x : Part) → is_plain x ≡ true → length (held r x) ≡ plain_room x
  pub kept : (x : Part) → is_plain x ≡ true → rule r.form x (held r x) ≡ true
  pub characters : (x : Part) → is_plain x ≡ true → every is_character (held r x) ≡ true
  -- the number and the name
  pub number_places : length r.number ≡ number_room
  pub number_ends : trimmed_length r.number ≡ r.number_len
  pub number_some : 1 ≤ r.number_len
  pub number_most : r.number_len ≤ longest r.form
  pub number_begins : is_solid (get_or r.number 0 0) ≡ true
  pub further_solid : every is_solid (drop nine (take r.number_len r.number)) ≡ true
  pub number_characters : every is_character r.number ≡ true
  pub name_places : length r.name ≡ name_room
  pub name_ends : trimmed_length r.name ≡ r.name_len
  pub name_some : 1 ≤ r.name_len
  pub name_most : r.name_len ≤ name_room
  pub name_fits : r.name_len ≤ width r.form name
  pub name_kept : name_rule r.name ≡ true
  pub name_characters : every is_character r.name ≡ true
  -- the issuer's own data
  pub own_places : length r.own ≡ own_room
  pub own_ends : trimmed_length r.own ≡ r.own_len
  pub own_fits : r.own_len ≤ own_place r.form r.number_len
  pub own_most : r.own_len ≤ own_room
  pub own_characters : every is_character r.own ≡ true
  -- it is the one that holds what it holds
  pub again : holding r.form (held r) ≡ r

apart : (least most : ℕ) (s : List ℕ) (n : ℕ) → is_held least most s n ≡ true → (least ≤ n) × (n ≤ most) × (trimmed_length s ≡ n)
unfolding is_held
apart least most s n e =
    let a = and_both (leb least n) (leb n most && eqb (trimmed_length s) n) e in
    let b = and_both (leb n most) (eqb (trimmed_length s) n) a.1 in
    (leb-true least n a.0, leb-true n most b.0, eqb-true (trimmed_length s) n b.1)

pub taken_apart : (r : Record) → is_sound r ≡ true → Sound r
unfolding is_sound is_shaped keeps_rules is_numbered is_named is_owned is_number name_rule
taken_apart r e =
    let shape = and_both _ _ e in
    let rooms = and_both _ _ shape.0 in
    let long = and_both _ _ rooms.1 in
    let longer = and_both (eqb (length r.name) name_room) (eqb (length r.own) own_room) long.1 in
    let rules = and_both _ _ shape.1 in
    let both = and_both _ _ rules.1 in
    let number = and_both _ _ both.0 in
    let n = apart 1 (longest r.form) r.number r.number_len number.0 in
    let written = and_both _ _ number.1 in
    let solid = and_both (is_solid (get_or r.number 0 0)) (every is_solid (drop nine (take r.number_len r.number)))
    written.1 in
    let last = and_both (is_named r) (is_owned r) both.1 in
    let named = and_both _ _ last.0 in
    let m = apart 1 (width r.form name) r.name r.name_len named.0 in
    let places : (x : Part) → is_plain x ≡ true → length (held r x) ≡ plain_room x = λ x p.
    eqb-true (length (held r x)) (plain_room x) (plain_passes (λ y k. eqb (length (held r y)) k) rooms.0 x p) in
    let kept : (x : Part) → is_plain x ≡ true → rule r.form x (held r x) ≡ true =
    plain_passes (λ y k. rule r.form y (held r y)) rules.0 in
    let number-long = eqb-true (length r.number) number_room long.0 in
    let name_long = eqb-true (length r.name) name_room longer.0 in
    let owned = and_both _ _ last.1 in
    let o = apart 0 (own_place r.form r.number_len) r.own r.own_len owned.0 in
    let own_long = eqb-true (length r.own) own_room longer.1 in
    record {
      places = places;
      kept = kept;
      characters = λ x p. plain_pure r.form (held r x) x p (places x p) (kept x p);
      number_places = number-long;
      number_ends = n.2;
      number_some = n.0;
      number_most = n.1;
      number_begins = solid.0;
      further_solid = solid.1;
      number_characters = written.0;
      name_places = name_long;
      name_ends = m.2;
      name_some = m.0;
      name_most = le_trans m.1 (name_room_lem r.form);
      name_fits = m.1;
      name_kept = named.1;
      name_characters = name_pure r.name
          (and_both (is_letter (get_or r.name 0 0)) (every is_name_character r.name) named.1).1;
      own_places = own_long;
      own_ends = o.2;
      own_fits = o.1;
      own_most = rw (o.2, own_long) at (trimmed_le r.own);
      own_characters = owned.1;
      again = holding_held r places number-long n.2 name_long m.2 own_long o.2;
    }

-- whatever it holds
pub held_pure : (r : Record) → Sound r → (x : Part) → every is_character (held r x) ≡ true
unfolding held_rows plain every
held_pure r s = in_rows_lem (λ x l. every is_character l ≡ true) [] (held_rows r) (λ x. refl)
    (s.characters code refl
    and s.characters state refl
    and every_take is_character r.number_len r.number s.number_characters
    and s.characters nationality refl
    and s.characters birth refl
    and s.characters sex refl
    and s.characters expiry refl
    and every_take is_character r.name_len r.name s.name_characters
    and every_take is_character r.own_len r.own s.own_characters
    and all_said)

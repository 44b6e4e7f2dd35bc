-- The further characters of a sound record's number have room in the optional field, with their digit and a filler behind it;
-- and so have the issuer's own data in theirs, behind what stands there of the number.
use Prim.Native.Nat.{ℕ, ◌+◌, ◌-◌, ◌≤◌, ◌<◌}
use mathlib.Core.Path.{◌≡◌, refl, ap, sym, ◌∙◌}
use mathlib.Core.Bool.{Bool, true, false, cond, ◌&&◌}
use mathlib.Core.List.{List, [], ◌∷◌, ◌++◌}
use native.Mathlib.Nat.{min-eq_left}
use native.Mathlib.Omega.{arith}
use borrow.Author.Tests.{ltb-true}
use lib.Dec.{ltb}
use lib.ListN.{length, drop, length-take, length-drop, length-append}
use lib.Seq.{take_all}
use Rattle.zone.specs.declared.record.Record.{Record}
use Rattle.zone.specs.Alphabet.{filler}
use Rattle.zone.specs.Part.{optional, own, same}
use Rattle.zone.specs.Record.{held_rows, held}
use Rattle.zone.specs.Rooms.{nine, further, number_room}
use Rattle.zone.specs.Form.{width, longest, own_part, before_own, own_place}
use Rattle.zone.proofs.Parts.{same_one}
use Rattle.zone.proofs.Widths.{longest_number}
use Rattle.zone.proofs.Padded.{trimmed_le}
use Rattle.sound.proofs.SoundRecord.{Sound}
use Rattle.digit.specs.Check.{digit_of}
use Rattle.writing.specs.Text.{number_in, further_in, is_wide, in_optional}

module _ (r : Record) (s : Sound r) where
  pub is_wide_lem : is_wide r ≡ true → nine < r.number_len
  unfolding is_wide
  is_wide_lem e = ltb-true nine r.number_len e

  pub number_within : r.number_len ≤ number_room
  number_within = omega (arith, trimmed_le r.number, s.number_ends, s.number_places)

  pub number_length : length (number_in r) ≡ r.number_len
  unfolding number_in
  number_length = length-take r.number_len r.number ∙ min-eq_left (omega (arith, s.number_places, number_within))

  pub further_all : further_in r ≡ drop nine (number_in r)
  unfolding further_in
  further_all = take_all further (drop nine (number_in r)) (rw length-drop (omega (arith, number_length, number_within)))

  pub further_length : length (further_in r) ≡ r.number_len - nine
  further_length = rw (further_all, length-drop, number_length)

  -- at least one
  pub further_fits : is_wide r ≡ true → (1 ≤ length (further_in r)) × (length (further_in r) + 1 < width r.form optional)
  further_fits e =
      let h = is_wide_lem e in
      let k : nine < longest r.form = omega (arith, s.number_most) in
      let room = (longest_number r.form).long_room k in
      (rw further_length (omega arith), rw further_length (omega (arith, room, s.number_most)))

  -- what stands of the number before the issuer's own data in their part
  pub before_length : same (own_part r.form) optional ≡ true → before_own r.form r.number_len ≡ length (in_optional r)
  unfolding before_own in_optional is_wide
  before_length e = rw e (go (ltb nine r.number_len))
    where
      long : length (further_in r ++ (digit_of (number_in r) ∷ filler ∷ [])) ≡ r.number_len - nine + 2
      long = length-append (further_in r) (digit_of (number_in r) ∷ filler ∷ []) ∙ ap (λ (n : ℕ). n + 2) further_length

      go : (b : Bool) → cond b (r.number_len - nine + 2) 0
          ≡ length (cond {A = List ℕ} b (further_in r ++ (digit_of (number_in r) ∷ filler ∷ [])) [])
      go true = sym long
      go false = refl

  held_own : length (held r own) ≡ r.own_len
  unfolding held_rows
  held_own = length-take r.own_len r.own ∙ min-eq_left (omega (arith, s.own_places, s.own_most))

  -- and that both fit there
  pub own_place_lem : before_own r.form r.number_len + length (held r own) ≤ width r.form (own_part r.form)
  unfolding before_own own_place
  own_place_lem = rw held_own (go (same (own_part r.form) optional) (ltb nine r.number_len) refl refl s.own_fits)
    where
      go : (a b : Bool) → same (own_part r.form) optional ≡ a → ltb nine r.number_len ≡ b
          → r.own_len ≤ width r.form (own_part r.form) - cond (a && b) (r.number_len - nine + 2) 0
          → cond (a && b) (r.number_len - nine + 2) 0 + r.own_len ≤ width r.form (own_part r.form)
      go true true e w h =
          let wide = ltb-true nine r.number_len w in
          let room = (longest_number r.form).long_room (omega (arith, s.number_most)) in
          let one = ap (width r.form) (same_one (own_part r.form) optional e) in
          omega (arith, room, one, s.number_most)
      go true false e w h = omega arith
      go false true e w h = omega arith
      go false false e w h = omega arith

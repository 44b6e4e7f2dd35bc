-- What the text of a sound record holds, part by part: each part what it is given, with fillers behind that.
use Prim.Native.Nat.{ℕ, ◌≤◌}
use mathlib.Core.Path.{◌≡◌, refl, ap, sym, ◌∙◌}
use mathlib.Core.Bool.{Bool, true, false, cond}
use mathlib.Core.List.{List, [], ◌∷◌, ◌++◌}
use lib.ListN.{length, take, get_or}
use Rattle.zone.specs.declared.record.Record.{Record}
use Rattle.zone.specs.Part.{Part, code, state, nationality, birth, sex, expiry, optional, optional2, composite, personal, own}
use Rattle.zone.specs.Part.{same}
use Rattle.zone.specs.Alphabet.{is_digit, is_letter, is_filler, is_character, every, filler}
use Rattle.zone.specs.Form.{layout, start, width, has, total, field, covered, own_part}
use Rattle.zone.specs.Record.{padded, is_plain, held}
use Rattle.zone.proofs.Fields.{one_there}
use Rattle.zone.proofs.Padded.{padded_exact, padded_full}
use Rattle.zone.specs.Rows.{◌is◌}
use Rattle.zone.proofs.Parts.{in_rows_or, ◌and◌, all_said}
use Rattle.zone.proofs.Holding.{each_plain, plain_width}
use Rattle.zone.proofs.Widths.{ones, has_one}
use Rattle.zone.proofs.Every.{every_append, every_take, every_drop}
use Rattle.digit.specs.Check.{digit_of}
use Rattle.digit.proofs.Written.{digit_character}
use Rattle.sound.proofs.SoundRecord.{Sound, held_pure}
use Rattle.writing.specs.Text.{number_in, further_in, is_wide, at_check, in_optional}
use Rattle.writing.specs.Text.{own_at, given_rows, given, last_digit, given_all}
use Rattle.writing.specs.Text.{text_of}
use Rattle.writing.proofs.CompositePlace.{covered_clear}
use Rattle.writing.proofs.Further.{further_all}
use Rattle.writing.proofs.InPlace.{length_in_place, field_in_place, every_in_place}
use Rattle.writing.proofs.Puts.{length_before, text_put}

module _ (r : Record) where
  pub length-text : length (text_of r) ≡ total r.form
  unfolding text_of
  length-text = length_in_place (given_all r) r.form

  shown_all : (x : Part) → field r.form x (text_of r) ≡ padded (width r.form x) (given_all r x)
  unfolding text_of
  shown_all x = field_in_place (given_all r) r.form x

  -- each part holds what it is given, with fillers behind that
  pub shown : (x : Part) → same x composite ≡ false → field r.form x (text_of r) ≡ padded (width r.form x) (given r x)
  shown x n = shown_all x ∙ rw n

  pub last_shown : has r.form composite ≡ true
      → get_or (text_of r) (start r.form composite) 0 ≡ digit_of (covered r.form (text_of r))
  unfolding last_digit
  last_shown there =
      let f = r.form in
      let d = last_digit r in
      let one = has_one f composite (ones f).composite_most there in
      let last : given_all r composite ≡ d ∷ [] = refl in
      one_there f composite (text_of r) d one (shown_all composite ∙ ap (padded (width f composite)) last)
      ∙ ap digit_of (sym (covered_clear r d _ there (length_before r)) ∙ ap (covered f) (text_put r))

  -- a check digit, or the sex
  pub one_shown : (x : Part) (c : ℕ) → same x composite ≡ false → width r.form x ≡ 1 → given r x ≡ c ∷ []
      → get_or (text_of r) (start r.form x) 0 ≡ c
  one_shown x c n w g = one_there r.form x (text_of r) c w (shown x n ∙ ap (padded (width r.form x)) g)

  -- a field that is wider than its part
  pub front_shown : (x : Part) → same x composite ≡ false → width r.form x ≤ length (given r x)
      → field r.form x (text_of r) ≡ take (width r.form x) (given r x)
  front_shown x n w = shown x n ∙ padded_full (width r.form x) (given r x) w

-- ---- the characters

one_pure : (c : ℕ) → is_character c ≡ true → every is_character (c ∷ []) ≡ true
unfolding every
one_pure c e = rw e

digit_pure : (l : List ℕ) → every is_character (digit_of l ∷ []) ≡ true
digit_pure l = one_pure (digit_of l) (digit_character l)

module _ (r : Record) (s : Sound r) where
  check_pure : is_character (at_check r) ≡ true
  unfolding at_check is_character is_digit is_letter is_filler
  check_pure = go (is_wide r)
    where
      go : (b : Bool) → is_character (cond b filler (digit_of (take 9 r.number))) ≡ true
      go true = refl
      go false = digit_character (take 9 r.number)

  optional_pure : every is_character (in_optional r) ≡ true
  unfolding in_optional number_in every is_character is_digit is_letter is_filler
  optional_pure = go (is_wide r)
    where
      go : (b : Bool) → every is_character (cond b (further_in r ++ (digit_of (number_in r) ∷ filler ∷ [])) []) ≡ true
      go true =
          every_append is_character (further_in r) (digit_of (number_in r) ∷ filler ∷ [])
          (rw (further_all r s) (every_drop is_character 9 (number_in r)
          (every_take is_character r.number_len r.number s.number_characters)))
          (rw (digit_character (number_in r)))
      go false = refl

  own_pure : (x : Part) → every is_character (own_at r x) ≡ true
  unfolding own_at every
  own_pure x = go (same (own_part r.form) x)
    where
      go : (b : Bool) → every is_character (cond b (held r own) []) ≡ true
      go true = held_pure r s own
      go false = refl

  pub text_pure : every is_character (text_of r) ≡ true
  unfolding text_of last_digit given_rows every is_character is_digit is_letter is_filler
  text_pure = every_in_place is_character (given_all r) refl given_pure (layout r.form)
    where
      given_pure : (x : Part) → every is_character (given_all r x) ≡ true
      given_pure = in_rows_or (λ x l. every is_character l ≡ true) (held r) (composite is (last_digit r ∷ []) ∷ given_rows r)
          (held_pure r s) (digit_pure _
          and s.number_characters
          and s.name_characters
          and one_pure (at_check r) check_pure
          and every_append is_character (in_optional r) (own_at r optional) optional_pure (own_pure optional)
          and own_pure optional2
          and own_pure personal
          and refl
          and digit_pure _
          and digit_pure _
          and digit_pure _
          and all_said)

  -- a field of one width stands in its place
  pub plain_shown : (x : Part) → is_plain x ≡ true → field r.form x (text_of r) ≡ held r x
  unfolding given_rows
  plain_shown x p =
      each_plain (λ y n. field r.form y (text_of r) ≡ padded (width r.form y) (held r y))
      (shown r code refl) (shown r state refl) (shown r nationality refl) (shown r birth refl) (shown r sex refl)
      (shown r expiry refl) x p
      ∙ padded_exact (width r.form x) (held r x) (s.places x p ∙ sym (plain_width r.form x p))

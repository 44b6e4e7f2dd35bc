-- DEMAND 2, round trip: every sound record is written as a text (`text_length`) that is accepted and read as that record
-- (`text_read_back`); so no two have one text (`text_tells`).
use Prim.Native.Nat.{ℕ, suc, ◌+◌, ◌-◌, ◌≤◌, ◌<◌}
use mathlib.Core.Path.{◌≡◌, refl, ap, sym, ◌∙◌}
use mathlib.Core.Bool.{Bool, true, false, cond, ◌&&◌}
use mathlib.Core.List.{List, [], ◌∷◌, ◌++◌, append_assoc}
use native.Mathlib.Omega.{arith}
use borrow.Author.Tests.{lt-ltb, ltb-false}
use lib.Dec.{ltb}
use lib.ListN.{length, take, get_or, length-append, take-append-drop}
use lib.Seq.{take_all, take-take, take-append_seam, get_or-take, get_or-append_seam}
use Rattle.lent.proofs.Bools.{and_both}
use Rattle.refusal.specs.Outcome.{passed}
use Rattle.zone.specs.declared.form.Form.{Form}
use Rattle.zone.specs.declared.form.Source.{Source}
use Rattle.zone.specs.declared.form.Source.TheVariants.{Alone}
use Rattle.zone.specs.declared.record.Record.{Record}
use Rattle.zone.specs.Alphabet.{is_character, is_filler, is_letter, first_filler, every, filler}
use Rattle.zone.specs.Part.{number, number_check, optional, birth, birth_check, expiry, expiry_check}
use Rattle.zone.specs.Part.{name, personal, personal_check, own}
use Rattle.zone.specs.Form.{may_stand, start, width, has, total, longest, field}
use Rattle.zone.specs.Record.{trimmed, padded, plain, held_rows, held}
use Rattle.zone.proofs.Widths.{fixed, name_room_lem, ones, has_one}
use Rattle.zone.proofs.Padded.{padded_cons, padded_append}
use Rattle.zone.proofs.Holding.{same_holding}
use Rattle.digit.specs.Check.{digit_of}
use Rattle.field.specs.Letters.{name_rule, is_name_character}
use Rattle.field.specs.Rules.{rule}
use Rattle.text_digits.specs.Number.{is_long, span_of, number_by}
use Rattle.text.specs.Read.{Answer, read_text, answered, own_in, in_text, record_by}
use Rattle.sound.specs.Sound.{is_solid, is_sound}
use Rattle.writing.specs.Text.{number_in, further_in, is_wide, at_check, in_optional, own_at, given_rows, text_of}
use Rattle.text_theorems.specs.Accepted.{Keeps, filler_at}
use Rattle.text_theorems.proofs.NumberSpan.{short_span, long_span}
use Rattle.text_theorems.proofs.Acceptance.{passes, read_as, kept_told}
use Rattle.zone.proofs.FormTold.{alone_may}
use Rattle.zone.proofs.Every.{every_append, every_take, each_every}
use Rattle.sound.proofs.SoundRecord.{Sound, taken_apart}
use Rattle.zone.proofs.Fields.{in_field}
use Rattle.zone.proofs.Trimmed.{trimmed_cut}
use Rattle.sound.proofs.Solid.{solid, first_behind}
use Rattle.digit.proofs.Written.{digit_solid}
use Rattle.writing.proofs.Further.{is_wide_lem, number_length, further_all, further_fits}
use Rattle.text_theorems.proofs.TextOfRecord.{length-text, shown, one_shown, front_shown, text_pure}
use Rattle.text_theorems.proofs.CompositeKept.{composite_shown}
use Rattle.text_theorems.proofs.TextOfRecord.{plain_shown}
use Rattle.text_theorems.proofs.OwnData.{own_back, personal_shown}
use Rattle.text_theorems.proofs.RecordOfText.{in_text_lem}

and_false : (b : Bool) → b && false ≡ false
and_false true = refl
and_false false = refl

module _ (r : Record) (s : Sound r) where
  abbrev f : Form
  f = r.form

  abbrev t : List ℕ
  t = text_of r

  -- ---- the number in the text

  nine_shown : field f number t ≡ take 9 r.number
  unfolding given_rows
  nine_shown =
      let w = (fixed f).number_width in
      front_shown r number refl (omega (arith, w, s.number_places)) ∙ ap (λ n. take n r.number) w

  check_shown : get_or t (start f number_check) 0 ≡ at_check r
  unfolding given_rows
  check_shown = one_shown r number_check (at_check r) refl (ones f).number_check_one refl

  long_shown : is_long f t ≡ is_wide r
  unfolding is_long at_check is_filler
  long_shown = rw check_shown (go (is_wide r) refl)
    where
      go : (b : Bool) → is_wide r ≡ b → ltb 9 (longest f) && is_filler (cond b filler (digit_of (take 9 r.number))) ≡ b
      go true e = rw (lt-ltb 9 (longest f) (omega (arith, is_wide_lem r s e, s.number_most)))
      go false e = rw (digit_solid (take 9 r.number)) (and_false (ltb 9 (longest f)))

  -- a short one's digit
  short_digit : is_wide r ≡ false → at_check r ≡ digit_of (take 9 r.number)
  unfolding at_check
  short_digit e = rw e

  further_solid : every is_solid (further_in r) ≡ true
  unfolding number_in
  further_solid = rw (further_all r s) s.further_solid

  -- a long one's further characters and digit
  module _ (wide : is_wide r ≡ true) where
    solids : every is_solid (further_in r ++ (digit_of (number_in r) ∷ [])) ≡ true
    unfolding every is_solid
    solids = every_append is_solid (further_in r) (digit_of (number_in r) ∷ []) further_solid (rw (digit_solid (number_in r)))

    one_more_lem : length (further_in r ++ (digit_of (number_in r) ∷ [])) ≡ length (further_in r) + 1
    one_more_lem = length-append (further_in r) (digit_of (number_in r) ∷ [])

    -- the digit, and a filler and what may stand behind it
    abbrev last : List ℕ
    last = digit_of (number_in r) ∷ (filler ∷ own_at r optional)

    optional_padded : field f optional t ≡ padded (width f optional) (further_in r ++ last)
    unfolding given_rows in_optional
    optional_padded =
        shown r optional refl ∙ rw wide (ap (padded (width f optional))
        (append_assoc (further_in r) (digit_of (number_in r) ∷ (filler ∷ [])) (own_at r optional)))

    filler_shown : filler_at f t ≡ length (further_in r) + 1
    filler_shown =
        let a = further_in r ++ (digit_of (number_in r) ∷ []) in
        let parts : further_in r ++ last ≡ a ++ (filler ∷ own_at r optional) =
        sym (append_assoc (further_in r) (digit_of (number_in r) ∷ []) (filler ∷ own_at r optional)) in
        ap first_filler (optional_padded ∙ ap (padded (width f optional)) parts)
        ∙ first_behind (width f optional) a (own_at r optional) solids (rw one_more_lem (further_fits r s wide).1)
        ∙ one_more_lem

    abbrev after : List ℕ
    after = padded (width f optional - suc (length (further_in r))) (filler ∷ own_at r optional)

    optional_shown : field f optional t ≡ further_in r ++ (digit_of (number_in r) ∷ after)
    optional_shown =
        let w = width f optional in
        let fits = (further_fits r s wide).1 in
        let e : w - length (further_in r) ≡ suc (w - suc (length (further_in r))) = omega arith in
        optional_padded ∙ padded_append w (further_in r) last
        ∙ rw (
          take_all w (further_in r) (omega arith),
          e,
          padded_cons (w - suc (length (further_in r))) (digit_of (number_in r)) _,
        )

    before_filler : filler_at f t - 1 ≡ length (further_in r)
    before_filler = omega (arith, filler_shown)

    number_shown : field f number t ++ take (filler_at f t - 1) (field f optional t) ≡ number_in r
    unfolding number_in
    number_shown =
        rw (
          nine_shown,
          before_filler,
          optional_shown,
          take-append_seam (further_in r) (digit_of (number_in r) ∷ after),
          further_all r s,
        )
        (rw (take-take 9 r.number_len r.number (omega (arith, is_wide_lem r s wide))) at (take-append-drop 9 (number_in r)))

    digit_shown : get_or t (start f optional + (filler_at f t - 1)) 0 ≡ digit_of (number_in r)
    digit_shown =
        rw (
          before_filler,
          in_field f optional t (length (further_in r)) (omega (arith, (further_fits r s wide).1)),
          optional_shown,
        )
        (get_or-append_seam (further_in r) (digit_of (number_in r)) after 0)

  ends : is_wide r ≡ true → (2 ≤ filler_at f t) × (filler_at f t < width f optional)
  ends wide =
      let fits = further_fits r s wide in
      (rw (filler_shown wide) (omega (arith, fits.0)), rw (filler_shown wide) fits.1)

  not_wide : is_wide r ≡ false → r.number_len ≤ 9
  unfolding is_wide
  not_wide e = ltb-false 9 r.number_len e

  -- ---- the text keeps every rule

  name_shown : field f name t ≡ take (width f name) r.name
  unfolding given_rows
  name_shown = front_shown r name refl (omega (arith, s.name_places, name_room_lem f))

  name_rule_lem : name_rule (take (width f name) r.name) ≡ true
  unfolding name_rule
  name_rule_lem =
      let both = and_both (is_letter (get_or r.name 0 0)) (every is_name_character r.name) s.name_kept in
      rw (get_or-take (width f name) r.name 0 0 (omega (arith, s.name_some, s.name_fits)), both.0)
      (every_take is_name_character (width f name) r.name both.1)

  birth_right : get_or t (start f birth_check) 0 ≡ digit_of (field f birth t)
  unfolding given_rows held_rows plain
  birth_right =
      one_shown r birth_check (digit_of (take 6 r.birth)) refl (ones f).birth_check_one refl
      ∙ ap digit_of (take_all 6 r.birth (omega (arith, s.places birth refl)) ∙ sym (plain_shown r s birth refl))

  expiry_right : get_or t (start f expiry_check) 0 ≡ digit_of (field f expiry t)
  unfolding given_rows held_rows plain
  expiry_right =
      one_shown r expiry_check (digit_of (take 6 r.expiry)) refl (ones f).expiry_check_one refl
      ∙ ap digit_of (take_all 6 r.expiry (omega (arith, s.places expiry refl)) ∙ sym (plain_shown r s expiry refl))

  personal_right : has f personal_check ≡ true → get_or t (start f personal_check) 0 ≡ digit_of (field f personal t)
  unfolding given_rows
  personal_right h =
      one_shown r personal_check (digit_of (held r own)) refl (has_one f personal_check (ones f).personal_check_most h) refl
      ∙ personal_shown r s h

  pub text_keeps : Keeps f t
  text_keeps = record {
    size = length-text r;
    alphabet = each_every is_character t (text_pure r s);
    plain_kept = λ x p. ap (rule f x) (plain_shown r s x p) ∙ s.kept x p;
    number_begins = rw (nine_shown, get_or-take 9 r.number 0 0 (omega arith)) (solid (get_or r.number 0 0) s.number_begins);
    number_ends = λ e. ends (sym long_shown ∙ e);
    name_kept = ap name_rule name_shown ∙ name_rule_lem;
    number_digit = λ e. check_shown ∙ short_digit (sym long_shown ∙ e) ∙ ap digit_of (sym nine_shown);
    long_digit = λ e. digit_shown (sym long_shown ∙ e) ∙ ap digit_of (sym (number_shown (sym long_shown ∙ e)));
    birth_digit = birth_right;
    expiry_digit = expiry_right;
    personal_digit = λ h standing. personal_right h;
    composite_digit = composite_shown r;
  }

  -- ---- and is read as the record

  number_read : number_by f t (span_of f t) ≡ number_in r
  unfolding number_by number_in trimmed
  number_read = go (is_wide r) refl
    where
      go : (b : Bool) → is_wide r ≡ b → number_by f t (span_of f t) ≡ take r.number_len r.number
      go false e =
          rw (short_span f t (long_shown ∙ e), nine_shown)
          (trimmed_cut 9 r.number (omega (arith, s.number_ends, not_wide e)) ∙ ap (λ n. take n r.number) s.number_ends)
      go true e =
          rw (long_span f t (long_shown ∙ e) (ends e).0 (ends e).1) (number_shown e)

  name_read : trimmed (field f name t) ≡ take r.name_len r.name
  unfolding trimmed
  name_read =
      ap trimmed name_shown ∙ trimmed_cut (width f name) r.name (omega (arith, s.name_ends, s.name_fits))
      ∙ ap (λ n. take n r.name) s.name_ends

  own_read : trimmed (own_in f t (length (number_by f t (span_of f t)))) ≡ held r own
  own_read = rw (number_read, number_length r s) (own_back r s)

  record_read : record_by f t (span_of f t) ≡ r
  unfolding record_by in_text held_rows number_in
  record_read =
      same_holding f (in_text f t (span_of f t)) (held r) (λ x p. in_text_lem f t (span_of f t) x p ∙ plain_shown r s x p)
      number_read name_read own_read
      ∙ s.again

  read_written : (source : Source) → may_stand source f ≡ true → read_text source t ≡ record { outcome = passed; kept = r }
  unfolding answered
  read_written source may = rw (read_as source f t (kept_told source f t may text_keeps), passes f t text_keeps, record_read)

-- ---- the theorem

module _ (r : Record) (sound : is_sound r ≡ true) where
  -- wherever the record's form may stand; alone, each may
  pub text_read_back_in : (source : Source) → may_stand source r.form ≡ true
      → read_text source (text_of r) ≡ record { outcome = passed; kept = r }
  text_read_back_in source may = read_written r (taken_apart r sound) source may

  pub text_read_back : read_text Alone (text_of r) ≡ record { outcome = passed; kept = r }
  text_read_back = text_read_back_in Alone (alone_may r.form)

  pub text_length : length (text_of r) ≡ total r.form
  text_length = length-text r

-- no two sound records have one text
pub text_tells : (r q : Record) → is_sound r ≡ true → is_sound q ≡ true → text_of r ≡ text_of q → r ≡ q
text_tells r q a b e = ap (λ (x : Answer). x.kept) (sym (text_read_back r a) ∙ ap (read_text Alone) e ∙ text_read_back q b)

-- DEMAND 2, the record: an accepted text's record holds the fields that stand in it, and is sound.
use Prim.Native.Nat.{ℕ, ◌+◌, ◌-◌, ◌≤◌, ◌<◌}
use mathlib.Core.Path.{◌≡◌, refl, ap, sym, ◌∙◌}
use mathlib.Core.Bool.{Bool, true, false, cond, ◌&&◌}
use mathlib.Core.List.{List, ◌++◌}
use native.Mathlib.Omega.{arith}
use borrow.Author.Tests.{le-leb, eq-eqb, lt-ltb, le-ltb}
use lib.Dec.{eqb, ltb}
use lib.ListN.{length, take, drop, get_or, replicate, length-take, length-drop, length-append, drop_of_length-le, get_or-append}
use lib.Seq.{take_all, drop_at, get_or-take}
use Rattle.lent.proofs.Bools.{and_both, both_and}
use Rattle.refusal.specs.Outcome.{passed}
use Rattle.zone.specs.declared.form.Source.{Source}
use Rattle.zone.specs.declared.form.Form.{Form}
use Rattle.zone.specs.Alphabet.{is_character, is_filler, is_letter, is_digit, every, filler}
use Rattle.zone.specs.declared.record.Record.{Record}
use Rattle.zone.specs.Part.{Part, number, optional, name, same}
use Rattle.zone.specs.Rooms.{number_room, name_room, own_room}
use Rattle.zone.specs.Form.{start, width, total, longest, field, own_part, before_own, own_place}
use Rattle.zone.specs.Record.{trimmed_length, trimmed, padded, plain_room, is_plain, held_rows, held, holding}
use Rattle.zone.proofs.Widths.{within, fixed, name_room_lem, some_name, longest_number}
use Rattle.zone.proofs.Parts.{same_one}
use Rattle.zone.proofs.Holding.{each_plain, passes_plain, plain_width, held_plain}
use Rattle.zone.proofs.Padded.{padded_spare, padded_trimmed, length-padded, take-padded, trimmed_le, trimmed_length_lem}
use Rattle.field.specs.Letters.{name_rule, is_name_character}
use Rattle.field.specs.Rules.{rule}
use Rattle.text_digits.specs.declared.number.Span.{Span}
use Rattle.text_digits.specs.Number.{is_long, span_of, number_by}
use Rattle.text.specs.Read.{read_text, answered, own_in, in_text, record_by}
use Rattle.text.proofs.Ends.{own_within}
use Rattle.sound.specs.Sound.{is_shaped, keeps_rules, is_held, is_solid, is_number, is_numbered, is_named, is_owned, is_sound}
use Rattle.text_theorems.specs.Accepted.{Keeps, filler_at}
use Rattle.text_theorems.specs.Held.{Holds}
use Rattle.zone.proofs.FormTold.{by_told}
use Rattle.text_theorems.proofs.NumberSpan.{short_span, long_span, long_form}
use Rattle.text_theorems.proofs.Acceptance.{keeps, accepted_form, read_as}
use Rattle.zone.proofs.Trimmed.{trimmed_fillers, trimmed_twice, trimmed_some}
use Rattle.sound.proofs.Solid.{ends_solid, solid_before}
use Rattle.zone.proofs.Classes.{letter_solid}
use Rattle.zone.proofs.Every.{every_append, every_take, every_drop, every_replicate, every_each}

-- ---- widths

field_length : (f : Form) (x : Part) (t : List ℕ) → length t ≡ total f → length (field f x t) ≡ width f x
unfolding field
field_length f x t e = rw (length-take, length-drop) (omega (arith, within f x))

-- ---- lists with fillers behind them

-- a list that ends in no filler, with room to spare
is_held_lem : (least most n : ℕ) (s : List ℕ) → least ≤ length s → length s ≤ most → length s ≤ n → trimmed_length s ≡ length s
    → is_held least most (padded n s) (length s) ≡ true
unfolding is_held
is_held_lem least most n s a b c e =
    rw (
      le-leb least (length s) a,
      le-leb (length s) most b,
      padded_spare n s c,
      trimmed_fillers s (n - length s),
      eq-eqb (trimmed_length s) (length s) e,
    )

first_padded : (n : ℕ) (s : List ℕ) → length s ≤ n → 0 < length s → get_or (padded n s) 0 0 ≡ get_or s 0 0
first_padded n s h k = rw (padded_spare n s h) (get_or-append s (replicate (n - length s) filler) 0 0 k)

every_padded : (p : ℕ → Bool) (n : ℕ) (s : List ℕ) → length s ≤ n → p filler ≡ true → every p s ≡ true
    → every p (padded n s) ≡ true
every_padded p n s h q e = rw (padded_spare n s h)
    (every_append p s (replicate (n - length s) filler) e (every_replicate p (n - length s) filler q))

filler_character : is_character filler ≡ true
unfolding is_character is_digit is_letter is_filler
filler_character = refl

filler_in_name : is_name_character filler ≡ true
unfolding is_name_character is_letter is_filler
filler_in_name = refl

-- ---- the number

-- a number of nine characters or fewer has none from its tenth on
short_further : (s : List ℕ) → length s ≤ 9 → every is_solid (drop 9 s) ≡ true
unfolding every
short_further s h = rw (drop_of_length-le s h)

record Sure (f : Form) (t num : List ℕ) : Type 0 where
  some : 1 ≤ length num
  fits : length num ≤ longest f
  ends : trimmed_length num ≡ length num
  begins : is_filler (get_or num 0 0) ≡ false
  pure : every is_character num ≡ true
  further : every is_solid (drop 9 num) ≡ true

-- of a plain field it is what stands in its place
pub in_text_lem : (f : Form) (t : List ℕ) (span : Span) (x : Part) → is_plain x ≡ true → in_text f t span x ≡ field f x t
unfolding in_text
in_text_lem f t span = each_plain (λ x n. in_text f t span x ≡ field f x t) refl refl refl refl refl refl

module _ (f : Form) (t : List ℕ) (k : Keeps f t) where
  all_characters : every is_character t ≡ true
  all_characters = every_each is_character t k.alphabet

  pure_field : (x : Part) → every is_character (field f x t) ≡ true
  unfolding field
  pure_field x = every_take is_character (width f x) (drop (start f x) t) (every_drop is_character (start f x) t all_characters)

  nine : length (field f number t) ≡ 9
  nine = field_length f number t k.size ∙ (fixed f).number_width

  sure_short : Sure f t (trimmed (field f number t))
  unfolding trimmed
  sure_short =
      let s = field f number t in
      let some = trimmed_some s (omega (arith, nine)) k.number_begins in
      record {
        some = rw (trimmed_length_lem s) some;
        fits = rw (trimmed_length_lem s) (omega (arith, trimmed_le s, nine, (longest_number f).nine_fit));
        ends = trimmed_twice s ∙ sym (trimmed_length_lem s);
        begins = rw (get_or-take (trimmed_length s) s 0 0 some) k.number_begins;
        pure = every_take is_character (trimmed_length s) s (pure_field number);
        further = short_further (trimmed s) (rw (trimmed_length_lem s) (omega (arith, trimmed_le s, nine)));
      }

  sure_long : is_long f t ≡ true → Sure f t (field f number t ++ take (filler_at f t - 1) (field f optional t))
  sure_long long =
      let s = field f number t in
      let rest = take (filler_at f t - 1) (field f optional t) in
      let ends = k.number_ends long in
      let solid : every is_solid rest ≡ true = solid_before (filler_at f t - 1) (field f optional t) (omega arith) in
      let some : length rest ≡ filler_at f t - 1 = rw length-take (omega (arith, field_length f optional t k.size, ends.1)) in
      let both : length (s ++ rest) ≡ length s + length rest = length-append s rest in
      let most = (longest_number f).long_room (long_form f t long) in
      record {
        some = omega (arith, nine);
        fits = omega (arith, nine, most, ends.1);
        ends = ends_solid s rest solid (omega (arith, ends.0));
        begins = rw (get_or-append s rest 0 0 (omega (arith, nine))) k.number_begins;
        pure = every_append is_character s rest (pure_field number)
            (every_take is_character (filler_at f t - 1) (field f optional t) (pure_field optional));
        further = rw (drop_at s rest 9 nine) solid;
      }

  sure : Sure f t (number_by f t (span_of f t))
  unfolding number_by
  sure = go (is_long f t) refl
    where
      go : (b : Bool) → is_long f t ≡ b → Sure f t (number_by f t (span_of f t))
      go false e = rw (short_span f t e) sure_short
      go true e = rw (long_span f t e (k.number_ends e).0 (k.number_ends e).1) (sure_long e)

  -- ---- the record

  abbrev told : Record
  told = record_by f t (span_of f t)

  plain_in : (x : Part) → is_plain x ≡ true → held told x ≡ field f x t
  unfolding record_by
  plain_in x p =
      let g = in_text f t (span_of f t) in
      let here = in_text_lem f t (span_of f t) x p in
      held_plain f g x p (ap length here ∙ field_length f x t k.size ∙ plain_width f x p) ∙ here

  number_room_lem : length (number_by f t (span_of f t)) ≤ 22
  number_room_lem = omega (arith, sure.fits, (longest_number f).room_fits)

  name_length_lem : length (field f name t) ≡ width f name
  name_length_lem = field_length f name t k.size

  name_fits : length (trimmed (field f name t)) ≤ 39
  name_fits = rw (trimmed_length_lem (field f name t))
      (omega (arith, trimmed_le (field f name t), name_length_lem, name_room_lem f))

  whole_number_lem : take (length (number_by f t (span_of f t))) (padded 22 (number_by f t (span_of f t)))
      ≡ number_by f t (span_of f t)
  whole_number_lem = take-padded 22 (number_by f t (span_of f t)) ∙ take_all 22 (number_by f t (span_of f t)) number_room_lem

  -- ---- the issuer's own data

  abbrev numbered : ℕ
  numbered = length (number_by f t (span_of f t))

  abbrev data_in : List ℕ
  data_in = own_in f t numbered

  own_length_lem : length data_in ≡ own_place f numbered
  unfolding own_in own_place
  own_length_lem = length-drop (before_own f numbered) (field f (own_part f) t)
      ∙ ap (λ n. n - before_own f numbered) (field_length f (own_part f) t k.size)

  own_fits : length (trimmed data_in) ≤ own_room
  own_fits = rw (trimmed_length_lem data_in) (omega (arith, trimmed_le data_in, own_within f t numbered))

  whole_own : take (length (trimmed data_in)) (padded own_room (trimmed data_in)) ≡ trimmed data_in
  whole_own = take-padded own_room (trimmed data_in) ∙ take_all own_room (trimmed data_in) own_fits

  -- how much of their field the number takes
  none_before : numbered ≤ 9 → before_own f numbered ≡ 0
  unfolding before_own
  none_before h = rw (le-ltb 9 numbered h) (go (same (own_part f) optional))
    where
      go : (b : Bool) → cond (b && false) (numbered - 9 + 2) 0 ≡ 0
      go true = refl
      go false = refl

  other_before : (own_part f ≡ optional → ⊥) → before_own f numbered ≡ 0
  unfolding before_own
  other_before other = go (same (own_part f) optional) refl
    where
      go : (b : Bool) → same (own_part f) optional ≡ b → cond (b && ltb 9 numbered) (numbered - 9 + 2) 0 ≡ 0
      go true e = absurd (other (same_one (own_part f) optional e))
      go false e = refl

  long_before : is_long f t ≡ true → own_part f ≡ optional → before_own f numbered ≡ filler_at f t + 1
  unfolding before_own number_by
  long_before long one =
      let ends = k.number_ends long in
      let rest = take (filler_at f t - 1) (field f optional t) in
      let some : length rest ≡ filler_at f t - 1 = rw length-take (omega (arith, field_length f optional t k.size, ends.1)) in
      let n : numbered ≡ 9 + (filler_at f t - 1) = rw (long_span f t long ends.0 ends.1)
      (length-append (field f number t) rest ∙ omega (arith, nine, some)) in
      let wide : 9 < numbered = omega (arith, n, ends.0) in
      rw (one, lt-ltb 9 numbered wide) (omega (arith, n, ends.0))

  short_length : is_long f t ≡ false → numbered ≤ 9
  unfolding number_by
  short_length e = rw (short_span f t e, trimmed_length_lem (field f number t))
      (omega (arith, trimmed_le (field f number t), nine))

  pub holds : Holds f t told
  unfolding record_by holding held_rows in_text number_by own_in
  holds = record {
    form_held = refl;
    plain_held = plain_in;
    short_held = λ e. whole_number_lem ∙ rw (short_span f t e);
    long_held = λ e. whole_number_lem ∙ rw (long_span f t e (k.number_ends e).0 (k.number_ends e).1);
    name_held = take-padded 39 (trimmed (field f name t)) ∙ take_all 39 (trimmed (field f name t)) name_fits;
    own_held = λ e. whole_own ∙ ap (λ n. trimmed (drop n (field f (own_part f) t))) (none_before (short_length e));
    long_own = λ e one. whole_own ∙ ap (λ n. trimmed (drop n (field f (own_part f) t))) (long_before e one)
        ∙ ap (λ x. trimmed (drop (filler_at f t + 1) (field f x t))) one;
    other_own = λ other. whole_own ∙ ap (λ n. trimmed (drop n (field f (own_part f) t))) (other_before other);
  }

  -- the parts of soundness, in its order
  shaped : is_shaped told ≡ true
  unfolding is_shaped record_by holding in_text
  shaped =
      both_and
      (passes_plain (λ x n. eqb (length (held told x)) n) (λ x p. eq-eqb (length (held told x)) (plain_room x)
      (ap length (plain_in x p) ∙ field_length f x t k.size ∙ plain_width f x p)))
      (both_and (eq-eqb _ number_room (length-padded number_room (number_by f t (span_of f t))))
      (both_and (eq-eqb _ name_room (length-padded name_room (trimmed (field f name t))))
      (eq-eqb _ own_room (length-padded own_room (trimmed data_in)))))

  rules_kept : keeps_rules told ≡ true
  unfolding keeps_rules record_by holding
  rules_kept = passes_plain (λ x n. rule f x (held told x)) (λ x p. ap (rule f x) (plain_in x p) ∙ k.plain_kept x p)

  number_sound : is_held 1 (longest f) (padded 22 (number_by f t (span_of f t))) (length (number_by f t (span_of f t)))
      && is_number (padded 22 (number_by f t (span_of f t))) (length (number_by f t (span_of f t)))
      ≡ true
  unfolding is_number is_solid
  number_sound =
      let n = number_by f t (span_of f t) in
      rw (
        is_held_lem 1 (longest f) 22 n sure.some sure.fits number_room_lem sure.ends,
        every_padded is_character 22 n number_room_lem filler_character sure.pure,
        first_padded 22 n number_room_lem sure.some,
        sure.begins,
        take-padded 22 n,
        take_all 22 n number_room_lem,
      )
      sure.further

  name_sound : is_held 1 (width f name) (padded 39 (trimmed (field f name t))) (length (trimmed (field f name t)))
      && name_rule (padded 39 (trimmed (field f name t))) ≡ true
  unfolding name_rule trimmed
  name_sound =
      let s = field f name t in
      let both = and_both (is_letter (get_or s 0 0)) (every is_name_character s) k.name_kept in
      let long : length s ≤ 39 = omega (arith, name_length_lem, name_room_lem f) in
      let some : 0 < length s = omega (arith, name_length_lem, some_name f) in
      let kept : 1 ≤ trimmed_length s = trimmed_some s some (letter_solid (get_or s 0 0) both.0) in
      both_and
      (is_held_lem 1 (width f name) 39 (trimmed s) (rw (trimmed_length_lem s) kept)
      (rw (trimmed_length_lem s) (omega (arith, trimmed_le s, name_length_lem))) name_fits
      (trimmed_twice s ∙ sym (trimmed_length_lem s)))
      (rw (padded_trimmed 39 s, first_padded 39 s long some, both.0)
      (every_padded is_name_character 39 s long filler_in_name both.1))

  own_sound : is_held 0 (own_place f numbered) (padded own_room (trimmed data_in)) (length (trimmed data_in))
      && every is_character (padded own_room (trimmed data_in)) ≡ true
  unfolding trimmed own_in
  own_sound =
      both_and
      (is_held_lem 0 (own_place f numbered) own_room (trimmed data_in) (omega arith)
      (rw (trimmed_length_lem data_in) (omega (arith, trimmed_le data_in, own_length_lem))) own_fits
      (trimmed_twice data_in ∙ sym (trimmed_length_lem data_in)))
      (every_padded is_character own_room (trimmed data_in) own_fits filler_character
      (every_take is_character (trimmed_length data_in) data_in
      (every_drop is_character (before_own f numbered) (field f (own_part f) t) (pure_field (own_part f)))))

  pub sound : is_sound told ≡ true
  unfolding is_sound is_numbered is_named is_owned record_by holding in_text
  sound = both_and shaped (both_and rules_kept (both_and number_sound (both_and name_sound own_sound)))

pub kept_and_sound : (source : Source) (t : List ℕ) → (read_text source t).outcome ≡ passed
    → (f : Form) × Keeps f t × Holds f t (read_text source t).kept × (is_sound (read_text source t).kept ≡ true)
unfolding answered
kept_and_sound source t e =
    let w = accepted_form source t e in
    let f = w.0 in
    let told = by_told source f t w.1 in
    let k = keeps f t told.1 w.2 in
    let said = read_as source f t w.1 in
    (f, k, rw (said, w.2) (holds f t k), rw (said, w.2) (sound f t k))

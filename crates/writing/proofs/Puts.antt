-- Parts put one after the other over fillers are the text.
use Prim.Native.Nat.{ℕ, ◌+◌, ◌<◌, ◌≤◌}
use mathlib.Core.Path.{◌≡◌, refl, ap, sym, ◌∙◌}
use mathlib.Core.Bool.{Bool, true, false, cond, not, ◌&&◌, ◌||◌}
use mathlib.Core.Logic.{◌⊎◌, inl, inr}
use mathlib.Core.List.{List, [], ◌∷◌, ◌++◌, append-nil, append_assoc}
use native.Mathlib.Nat.{add-zero}
use native.Mathlib.Omega.{arith}
use lib.ListN.{length, take, replicate, length-replicate, length-append}
use lib.Seq.{take_all}
use Rattle.lent.proofs.Bools.{and_both, or_either, not_true}
use Rattle.zone.specs.declared.record.Record.{Record}
use Rattle.zone.specs.Alphabet.{filler}
use Rattle.zone.specs.Part.{Part, code, state, number, number_check, optional, birth, birth_check, sex, expiry, expiry_check}
use Rattle.zone.specs.Part.{nationality, optional2, composite, name, personal, personal_check, own, same, among}
use Rattle.zone.specs.Rows.{PartRow, all_rows}
use Rattle.zone.specs.Record.{held_rows, held}
use Rattle.zone.specs.Form.{layout, start, width, has, total, own_part, before_own}
use Rattle.zone.proofs.Parts.{same_one, OfRows, in_rows_or, in_rows_lem, rows_then, rows_pass}
use Rattle.zone.proofs.Own.{own_parts}
use Rattle.zone.proofs.Widths.{fixed, ones}
use Rattle.digit.specs.Check.{digit_of}
use Rattle.writing.specs.Text.{number_in, further_in, is_wide, at_check, in_optional, given_rows, given, in_place, before_last}
use Rattle.writing.specs.Text.{own_at, last_digit, text_of}
use Rattle.writing.specs.Inner.Puts.{put, mark, put_opening, put_short, put_long, put_number, put_dates, put_person, put_last}
use Rattle.writing.specs.Inner.Puts.{put_own, put_all}
use Rattle.sound.proofs.SoundRecord.{Sound}
use Rattle.writing.proofs.AfterPut.{put_none, put_more, put_behind}
use Rattle.writing.proofs.Further.{further_fits, before_length, own_place_lem}
use Rattle.writing.proofs.InPlace.{also, put_in_place, same_in_place, none_in_place, length_in_place}
use Rattle.writing.proofs.OneMarked.{put_length, single, mark_put, mark_none, single_or_none}

module _ (r : Record) where
  -- these parts put over a text, the last one first
  written : List Part → List ℕ → List ℕ
  written [] t = t
  written (x ∷ xs) t = put r x (given r x) (written xs t)

  whole : List Part
  whole =
      personal_check ∷ name ∷ sex ∷ nationality ∷ expiry_check ∷ expiry ∷ birth_check ∷ birth ∷ own ∷ personal ∷ optional2
      ∷ optional ∷ number_check ∷ number ∷ state ∷ code ∷ []

  blanks : List ℕ
  blanks = replicate (total r.form) filler

  length_blanks : length blanks ≡ total r.form
  unfolding blanks
  length_blanks = length-replicate (total r.form) filler

  length_written : (xs : List Part) (t : List ℕ) → length t ≡ total r.form → length (written xs t) ≡ total r.form
  unfolding written
  length_written [] t e = e
  length_written (x ∷ xs) t e = put_length r x (given r x) (written xs t) (length_written xs t e)

  -- ---- the writer's steps

  module _ (t : List ℕ) (e : length t ≡ total r.form) where
    opening : put_opening r t ≡ written (state ∷ code ∷ []) t
    unfolding put_opening written given_rows held_rows
    opening = refl

    dates : put_dates r t ≡ written (expiry_check ∷ expiry ∷ birth_check ∷ birth ∷ []) t
    unfolding put_dates written given_rows held_rows
    dates =
        rw (
          mark_put r birth_check (digit_of (take 6 r.birth)) (written (birth ∷ []) t) (length_written (birth ∷ []) t e)
              (single (ones r.form).birth_check_one),
          mark_put r expiry_check (digit_of (take 6 r.expiry)) (written (expiry ∷ birth_check ∷ birth ∷ []) t)
              (length_written (expiry ∷ birth_check ∷ birth ∷ []) t e) (single (ones r.form).expiry_check_one),
        )

    person : put_person r t ≡ written (name ∷ sex ∷ nationality ∷ []) t
    unfolding put_person written given_rows held_rows
    person = rw (mark_put r sex r.sex (written (nationality ∷ []) t) (length_written (nationality ∷ []) t e)
        (single (fixed r.form).sex_width))

    personal_digit_lem : mark r personal_check (digit_of (held r own)) t ≡ written (personal_check ∷ []) t
    unfolding written given_rows
    personal_digit_lem =
        mark_put r personal_check (digit_of (held r own)) t e (single_or_none r personal_check (ones r.form).personal_check_most)

    -- short, or long where the further characters, their digit and a filler have room
    number_put : (is_wide r ≡ true → length (further_in r) + 1 < width r.form optional)
        → put_number r t ≡ put r optional (in_optional r) (written (number_check ∷ number ∷ []) t)
    unfolding put_number put_long put_short written given_rows at_check in_optional
    number_put room = go (is_wide r) refl
      where
        marked : (c : ℕ) → mark r number_check c (put r number r.number t)
            ≡ put r number_check (c ∷ []) (put r number r.number t)
        marked c = mark_put r number_check c (put r number r.number t) (put_length r number r.number t e)
            (single (ones r.form).number_check_one)

        long_put : (c : ℕ) → length (put r number_check (c ∷ []) (put r number r.number t)) ≡ total r.form
        long_put c = put_length r number_check (c ∷ []) (put r number r.number t) (put_length r number r.number t e)

        go : (b : Bool) → is_wide r ≡ b
            → cond b (put_long r t) (put_short r t)
            ≡ put r optional (cond b (further_in r ++ (digit_of (number_in r) ∷ filler ∷ [])) [])
            (put r number_check (cond b filler (digit_of (take 9 r.number)) ∷ []) (put r number r.number t))
        go true wide =
            let u = put r number_check (filler ∷ []) (put r number r.number t) in
            let at = start r.form optional in
            let d = digit_of (number_in r) in
            let more : length (further_in r ++ (d ∷ [])) ≡ length (further_in r) + 1 = length-append (further_in r) (d ∷ []) in
            let place : at + length (further_in r) + 1 ≡ at + length (further_in r ++ (d ∷ [])) = omega (arith, more) in
            let one = put_more r optional (further_in r) d u (long_put filler) (omega (arith, room wide)) in
            let two = put_more r optional (further_in r ++ (d ∷ [])) filler u (long_put filler)
            (omega (arith, more, room wide)) in
            rw (marked filler, one, place)
            (two ∙ ap (λ (l : List ℕ). put r optional l u) (append_assoc (further_in r) (d ∷ []) (filler ∷ [])))
        go false short = rw (marked (digit_of (take 9 r.number)))
            (sym (put_none r optional _ (long_put (digit_of (take 9 r.number)))))

  -- the issuer's own data, behind what the number takes, in one of three parts
  module _ (s : Sound r) (u : List ℕ) (e : length u ≡ total r.form) where
    taken : List ℕ
    taken = put r optional (in_optional r) u

    taken_long : length taken ≡ total r.form
    unfolding taken
    taken_long = put_length r optional (in_optional r) u e

    -- a part that has nothing to do with the number
    beside : (x : Part) → own_part r.form ≡ x → same x optional ≡ false → put_own r taken ≡ put r x (held r own) taken
    unfolding put_own put before_own
    beside x one other =
        let place = rw (one, other) at (own_place_lem r s) in
        let fits : length (held r own) ≤ width r.form x = omega (arith, place) in
        rw (one, other, add-zero (start r.form x), take_all (width r.form x) (held r own) fits)

    in_optional_lem : same (own_part r.form) optional ≡ true → own_part r.form ≡ optional
        → put_own r taken ≡ put r optional (in_optional r ++ held r own) u
    unfolding put_own taken
    in_optional_lem k one =
        let n = before_length r s k in
        let fits : length (in_optional r) + length (held r own) ≤ width r.form optional = rw (n, one) at (own_place_lem r s) in
        rw (one, n) (put_behind r optional (in_optional r) (held r own) u e fits)

    -- the parts that it does not stand in are given nothing
    own_put : put_own r taken ≡ written (own ∷ personal ∷ optional2 ∷ optional ∷ []) u
    unfolding written given_rows own_at taken
    own_put = go (or_either _ _ (own_parts r.form))
      where
        all : List ℕ
        all = written (own ∷ personal ∷ optional2 ∷ optional ∷ []) u

        go : (same (own_part r.form) optional ≡ true)
            ⊎ (same (own_part r.form) optional2 || same (own_part r.form) personal ≡ true) → put_own r taken ≡ all
        go (inl k) =
            let one = same_one (own_part r.form) optional k in
            let t = put r optional (in_optional r ++ held r own) u in
            let long = put_length r optional (in_optional r ++ held r own) u e in
            in_optional_lem k one ∙ rw (one, put_none r optional2 t long, put_none r personal t long, put_none r own t long)
        go (inr k) = other (or_either _ _ k)
          where
            other : (same (own_part r.form) optional2 ≡ true) ⊎ (same (own_part r.form) personal ≡ true)
                → put_own r taken ≡ all
            other (inl k) =
                let one = same_one (own_part r.form) optional2 k in
                let t = put r optional2 (held r own) taken in
                let long = put_length r optional2 (held r own) taken taken_long in
                beside optional2 one refl ∙ rw (one, append-nil, put_none r personal t long, put_none r own t long)
            other (inr k) =
                let one = same_one (own_part r.form) personal k in
                let t = put r personal (held r own) taken in
                let long = put_length r personal (held r own) taken taken_long in
                beside personal one refl ∙ rw (one, append-nil, put_none r optional2 taken taken_long, put_none r own t long)

  -- ---- the steps together

  steps : Sound r
      → mark r personal_check (digit_of (held r own))
      (put_person r (put_dates r (put_own r (put_number r (put_opening r blanks)))))
      ≡ written whole blanks
  unfolding whole written taken
  steps s =
      let a = written (state ∷ code ∷ []) blanks in
      let a_long = length_written (state ∷ code ∷ []) blanks length_blanks in
      let n = written (number_check ∷ number ∷ []) a in
      let n-long = length_written (number_check ∷ number ∷ []) a a_long in
      let b = written (own ∷ personal ∷ optional2 ∷ optional ∷ []) n in
      let b-long = length_written (own ∷ personal ∷ optional2 ∷ optional ∷ []) n n-long in
      let c = written (expiry_check ∷ expiry ∷ birth_check ∷ birth ∷ []) b in
      let c-long = length_written (expiry_check ∷ expiry ∷ birth_check ∷ birth ∷ []) b b-long in
      let d = written (name ∷ sex ∷ nationality ∷ []) c in
      let d-long = length_written (name ∷ sex ∷ nationality ∷ []) c c-long in
      rw (
        opening blanks length_blanks,
        number_put a a_long (λ w. (further_fits r s w).1),
        own_put s n n-long,
        dates b b-long,
        person c c-long,
        personal_digit_lem d d-long,
      )

  -- ---- and in their places

  -- what the parts of a list are given, and the others nothing
  only_in : List Part → Part → List ℕ
  only_in xs y = cond (among y xs) (given r y) []

  -- no part stands behind itself
  once : List Part → Bool
  once [] = true
  once (x ∷ xs) = not (among x xs) && once xs

  written_in_place : (xs : List Part) → once xs ≡ true → written xs blanks ≡ in_place (only_in xs) (layout r.form)
  unfolding written once blanks only_in among put
  written_in_place [] e = none_in_place r.form ∙ same_in_place (λ x. []) (only_in []) none (layout r.form)
    where
      none : (y : Part) → [] ≡ only_in [] y
      none y = refl
  written_in_place (x ∷ xs) e =
      ap (put r x (given r x)) (written_in_place xs alone.1)
      ∙ (placed ∙ same_in_place (also (only_in xs) x (given r x)) (only_in (x ∷ xs)) more (layout r.form))
    where
      alone : (not (among x xs) ≡ true) × (once xs ≡ true)
      alone = and_both (not (among x xs)) (once xs) e

      absent : only_in xs x ≡ []
      absent = rw (not_true (among x xs) alone.0)

      placed : put r x (given r x) (in_place (only_in xs) (layout r.form))
          ≡ in_place (also (only_in xs) x (given r x)) (layout r.form)
      placed = put_in_place r.form (only_in xs) x (given r x) absent

      more : (y : Part) → also (only_in xs) x (given r x) y ≡ only_in (x ∷ xs) y
      more y = go (same y x) refl
        where
          go : (b : Bool) → same y x ≡ b
              → cond b (given r x) (cond (among y xs) (given r y) []) ≡ cond (b || among y xs) (given r y) []
          go true e = ap (given r) (sym (same_one y x e))
          go false e = refl

  -- all that are given anything are among them
  all_given : (y : Part) → only_in whole y ≡ given r y
  unfolding only_in whole given_rows held_rows among
  all_given = in_rows_or (λ y l. cond (among y whole) l [] ≡ l) (held r) (given_rows r)
      (in_rows_lem (λ y l. cond (among y whole) l [] ≡ l) [] (held_rows r) (λ y. either (among y whole))
      (here (held_rows r) refl))
      (here (given_rows r) refl)
    where
      either : (b : Bool) → cond {A = List ℕ} b [] [] ≡ []
      either true = refl
      either false = refl

      here : (rows : List (PartRow (List ℕ))) → all_rows (λ y l. among y whole) rows ≡ true
          → OfRows (λ y l. cond (among y whole) l [] ≡ l) rows
      here rows e = rows_then rows (λ y l h. rw h) (rows_pass (λ y l. among y whole) rows e)

  before_in_place : written whole blanks ≡ before_last r
  unfolding before_last whole once among
  before_in_place =
      written_in_place whole refl
      ∙ same_in_place (only_in whole) (given r) all_given (layout r.form)

  pub length_before : length (before_last r) ≡ total r.form
  unfolding before_last
  length_before = length_in_place (given r) r.form

  -- the composite digit is put last
  pub text_put : put r composite (last_digit r ∷ []) (before_last r) ≡ text_of r
  unfolding put before_last text_of given_rows held_rows
  text_put = put_in_place r.form (given r) composite (last_digit r ∷ []) refl

  pub put_text : (t : List ℕ) → length t ≡ total r.form
      → Sound r → put_all r t ≡ text_of r
  unfolding put_all put_last last_digit blanks
  put_text t long s =
      rw (long, steps s, before_in_place)
      (go (has r.form composite) refl
      ∙ (mark_put r composite (last_digit r) (before_last r) length_before
      (single_or_none r composite (ones r.form).composite_most)
      ∙ text_put))
    where
      go : (b : Bool) → has r.form composite ≡ b
          → cond b (mark r composite (last_digit r) (before_last r)) (before_last r)
          ≡ mark r composite (last_digit r) (before_last r)
      go true e = refl
      go false e = sym (mark_none r composite (last_digit r) (before_last r) length_before e)

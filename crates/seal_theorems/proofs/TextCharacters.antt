-- A seal's text has the characters of a text, so that it is never refused by 2 (`filled_numbered`): C40 has no others, spaces
-- being fillers.
use Prim.Native.Nat.{ℕ}
use mathlib.Core.Path.{◌≡◌, refl}
use mathlib.Core.Bool.{Bool, true, false, cond, ◌||◌}
use mathlib.Core.List.{List, [], ◌∷◌}
use native.Mathlib.Omega.{arith}
use borrow.Author.Tests.{eq-eqb}
use lib.Dec.{eqb}
use lib.ListN.{length}
use Rattle.std.specs.Prelude.{Option, Some, None}
use Rattle.lent.proofs.Bools.{and_both, both_and}
use Rattle.refusal.specs.Numbers.{Why, by, number_of}
use Rattle.refusal.specs.Calls.{of_fields, of_text, of_seal, tells}
use Rattle.refusal.specs.Outcome.{passed, refused}
use Rattle.refusal.proofs.Outcomes.{kept_unless}
use Rattle.refusal.proofs.Calls.{never_told, tells_within, tells_but}
use Rattle.refusal.proofs.Each.{Each, each_passed, each_refused}
use Rattle.zone.specs.declared.form.Form.{Form}
use Rattle.zone.specs.declared.form.Source.TheVariants.{Seal}
use Rattle.zone.specs.Alphabet.{is_digit, is_letter, is_filler, is_character, is_foreign, every, first_foreign, filler}
use Rattle.zone.specs.Form.{form_of}
use Rattle.zone.specs.Record.{blank}
use Rattle.zone.proofs.Every.{every_first}
use Rattle.text_digits.specs.Number.{span_of}
use Rattle.text_digits.proofs.EachDigit.{each_expecting}
use Rattle.text.specs.Order.{characters, verdict_by}
use Rattle.text.specs.Read.{read_text, read_by, record_by}
use Rattle.text.proofs.EachCheck.{each_verdict, each_answered}
use Rattle.c40.specs.Values.{space, is_c40}
use Rattle.seal_fields.specs.Spaces.{filled}
use Rattle.text_theorems.proofs.Expected.{text_numbered}

-- characters of C40, spaces being fillers, are characters of the zone
filled_character : (c : ℕ) → is_c40 c ≡ true → is_character (cond (eqb c space) filler c) ≡ true
unfolding is_c40 is_character is_digit is_letter is_filler
filled_character c e = go (eqb c space) refl
  where
    go : (b : Bool) → eqb c space ≡ b → is_character (cond b filler c) ≡ true
    go true p = refl
    go false p = others (is_digit c) (is_letter c) (is_filler c) (rw p at e)
      where
        others : (d l f : Bool) → d || (l || false) ≡ true → d || (l || f) ≡ true
        others true l f h = refl
        others false true f h = refl
        others false false f h = absurd (let z : ◌≡◌ {A = ℕ} 0 1 = cc in omega arith)

filled_characters : (t : List ℕ) → every is_c40 t ≡ true → every is_character (filled t) ≡ true
unfolding every filled
filled_characters [] e = refl
filled_characters (c ∷ t) e =
    let both = and_both (is_c40 c) (every is_c40 t) e in
    both_and (filled_character c both.0) (filled_characters t both.1)

pub filled_passed : (t : List ℕ) → every is_c40 t ≡ true → characters (filled t) ≡ passed
unfolding characters first_foreign is_foreign
filled_passed t e =
    let l = filled t in
    kept_unless (eqb (first_foreign l) (length l)) 2 (first_foreign l)
    (eq-eqb (first_foreign l) (length l) (every_first is_character l (filled_characters t e)))

-- a refusal that is not 2
abbrev Other : Why → ℕ → Type 0
Other why p = number_of why ≡ 2 → ⊥

passed_other : (t : List ℕ) → characters t ≡ passed → Each Other (read_text Seal t).outcome
unfolding read_text read_by
passed_other t fine = go (form_of Seal t)
  where
    go : (told : Option Form) → Each Other (read_by told t).outcome
    go None = each_answered Other (refused (by 1) 0) blank (each_refused Other (by 1) 0 (λ e. omega (arith, e)))
    go (Some f) =
        each_answered Other (verdict_by f t (span_of f t)) (record_by f t (span_of f t))
        (each_verdict Other f t (span_of f t) (λ n x h. never_told of_fields (by n) 2 h refl) (rw fine (each_passed Other))
        (each_expecting Other (λ d p e. omega (arith, e)) f t (span_of f t)))

-- so it is refused by what a seal tells
pub filled_numbered : (t : List ℕ) → every is_c40 t ≡ true
    → Each (λ why p. tells of_seal why ≡ true) (read_text Seal (filled t)).outcome
filled_numbered t e why p r =
    tells_but of_seal 2 why (tells_within of_text (2 ∷ of_seal) refl why (text_numbered Seal (filled t) why p r))
    (passed_other (filled t) (filled_passed t e) why p r)

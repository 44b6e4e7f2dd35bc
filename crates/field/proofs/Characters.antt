-- What keeps a field rule holds only characters of the alphabet.
use Prim.Native.Nat.{ℕ, zero, suc, ◌+◌, ◌-◌, ◌*◌, ◌<◌}
use mathlib.Core.Path.{◌≡◌, refl, ap, sym, ◌∙◌}
use mathlib.Core.Bool.{Bool, true, false, cond, not, ◌&&◌, ◌||◌, false≢true}
use mathlib.Core.Logic.{◌⊎◌, inl, inr}
use mathlib.Core.List.{List, [], ◌∷◌}
use native.Mathlib.Omega.{arith}
use borrow.Author.Tests.{eqb-true}
use lib.Dec.{eqb}
use lib.ListN.{length, get_or}
use Prim.Native.Char.{code}
use Rattle.lent.proofs.Bools.{and_both, or_either}
use Rattle.zone.specs.Alphabet.{is_digit, is_letter, is_filler, is_character, every}
use Rattle.zone.specs.declared.form.Form.{Form}
use Rattle.zone.specs.declared.form.Kind.{Kind}
use Rattle.zone.specs.declared.form.Kind.TheVariants.{Card, Passport, Visa}
use Rattle.zone.specs.Form.{row, is_visa, is_visa_code}
use Rattle.zone.specs.Part.{Part}
use Rattle.zone.specs.Record.{plain_room, is_plain}
use Rattle.field.specs.Code.{code_rule, kind_rule, card_rule, passport_rule, is_card_letter, is_second}
use Rattle.field.specs.Letters.{state_rule, letters_then_fillers, sex_rule, is_name_character}
use Rattle.field.specs.declared.date.Pair.{Pair}
use Rattle.field.specs.declared.date.Pair.TheVariants.{Known, Unknown, Neither}
use Rattle.field.specs.Date.{pair_of, year_of, month_of, day_of, days_in, year_rule, month_rule, day_rule, birth_rule, is_known}
use Rattle.field.specs.Date.{expiry_rule}
use Rattle.field.specs.Rules.{rule_rows, rule}
use Rattle.zone.proofs.Every.{every_each}
use Rattle.zone.proofs.Holding.{each_plain}
use Rattle.zone.proofs.Classes.{digit_in, either_in, filler_in, letter_in}

two : (s : List ℕ) → length s ≡ 2 → is_character (get_or s 0 0) ≡ true → is_character (get_or s 1 0) ≡ true
    → every is_character s ≡ true
two s e a b = every_each is_character s go
  where
    go : (i : ℕ) → i < length s → is_character (get_or s i 0) ≡ true
    go zero h = a
    go (suc zero) h = b
    go (suc (suc i)) h = absurd (omega arith)

three : (s : List ℕ) → length s ≡ 3 → is_character (get_or s 0 0) ≡ true → is_character (get_or s 1 0) ≡ true
    → is_character (get_or s 2 0) ≡ true
    → every is_character s ≡ true
three s e a b c = every_each is_character s go
  where
    go : (i : ℕ) → i < length s → is_character (get_or s i 0) ≡ true
    go zero h = a
    go (suc zero) h = b
    go (suc (suc zero)) h = c
    go (suc (suc (suc i))) h = absurd (omega arith)

one_of : (c n : ℕ) → is_letter n ≡ true → eqb c n ≡ true → is_character c ≡ true
one_of c n h k = ap is_character (eqb-true c n k) ∙ letter_in n h

card_letter : (c : ℕ) → is_card_letter c ≡ true → is_character c ≡ true
unfolding is_card_letter is_letter
card_letter c e = go (or_either (eqb c (code "A") || eqb c (code "C")) (eqb c (code "I")) e)
  where
    first_two : (eqb c (code "A") ≡ true) ⊎ (eqb c (code "C") ≡ true) → is_character c ≡ true
    first_two (inl h) = one_of c (code "A") refl h
    first_two (inr h) = one_of c (code "C") refl h

    go : (eqb c (code "A") || eqb c (code "C") ≡ true) ⊎ (eqb c (code "I") ≡ true) → is_character c ≡ true
    go (inl h) = first_two (or_either (eqb c (code "A")) (eqb c (code "C")) h)
    go (inr h) = one_of c (code "I") refl h

pub sex_pure : (c : ℕ) → sex_rule c ≡ true → is_character c ≡ true
unfolding sex_rule is_letter
sex_pure c e = go (or_either (eqb c (code "M") || eqb c (code "F")) (is_filler c) e)
  where
    letters : (eqb c (code "M") ≡ true) ⊎ (eqb c (code "F") ≡ true) → is_character c ≡ true
    letters (inl h) = one_of c (code "M") refl h
    letters (inr h) = one_of c (code "F") refl h

    go : (eqb c (code "M") || eqb c (code "F") ≡ true) ⊎ (is_filler c ≡ true) → is_character c ≡ true
    go (inl h) = letters (or_either (eqb c (code "M")) (eqb c (code "F")) h)
    go (inr h) = filler_in c h

card_pure : (s : List ℕ) → length s ≡ 2 → card_rule (get_or s 0 0) (get_or s 1 0) ≡ true → every is_character s ≡ true
unfolding card_rule is_second
card_pure s l e =
    let a = get_or s 0 0 in
    let b = get_or s 1 0 in
    let both = and_both (is_card_letter a)
    ((is_letter b || is_filler b) && (not (eqb b (code "V")) && not (eqb a (code "A") && eqb b (code "C")))) e in
    let more = and_both (is_letter b || is_filler b) (not (eqb b (code "V")) && not (eqb a (code "A") && eqb b (code "C")))
    both.1 in
    two s l (card_letter a both.0) (either_in b more.0)

passport_pure : (s : List ℕ) → length s ≡ 2 → passport_rule (get_or s 0 0) (get_or s 1 0) ≡ true → every is_character s ≡ true
unfolding passport_rule is_second is_letter
passport_pure s l e =
    let a = get_or s 0 0 in
    let b = get_or s 1 0 in
    let both = and_both (eqb a (code "P")) (is_letter b || is_filler b) e in
    two s l (one_of a (code "P") refl both.0) (either_in b both.1)

visa_pure : (s : List ℕ) → length s ≡ 2 → is_visa_code (get_or s 0 0) (get_or s 1 0) ≡ true → every is_character s ≡ true
unfolding is_visa_code is_letter
visa_pure s l e =
    let a = get_or s 0 0 in
    let b = get_or s 1 0 in
    let both = and_both (eqb a (code "V")) (is_letter b || is_filler b) e in
    two s l (one_of a (code "V") refl both.0) (either_in b both.1)

kind_pure : (k : Kind) (s : List ℕ) → length s ≡ 2 → kind_rule k (get_or s 0 0) (get_or s 1 0) ≡ true
    → every is_character s ≡ true
unfolding kind_rule
kind_pure Card s l e = card_pure s l e
kind_pure Passport s l e = passport_pure s l e
kind_pure Visa s l e = visa_pure s l e

pub code_pure : (f : Form) (s : List ℕ) → length s ≡ 2 → code_rule f s ≡ true → every is_character s ≡ true
unfolding code_rule
code_pure f s l e = kind_pure (row f).kind s l e

pub state_pure : (s : List ℕ) → length s ≡ 3 → state_rule s ≡ true → every is_character s ≡ true
unfolding state_rule letters_then_fillers
state_pure s l e =
    let both = and_both (is_letter a) (cond (is_letter b) (is_letter c || is_filler c) (is_filler b && is_filler c)) e in
    let more = go (is_letter b) refl both.1 in
    three s l (letter_in a both.0) more.0 more.1
  where
    a : ℕ
    a = get_or s 0 0

    b : ℕ
    b = get_or s 1 0

    c : ℕ
    c = get_or s 2 0

    go : (x : Bool) → is_letter b ≡ x → cond x (is_letter c || is_filler c) (is_filler b && is_filler c) ≡ true
        → (is_character b ≡ true) × (is_character c ≡ true)
    go true p h = (letter_in b p, either_in c h)
    go false p h = let both = and_both (is_filler b) (is_filler c) h in (filler_in b both.0, filler_in c both.1)

-- two characters of a date, under a rule that refuses what is neither two digits nor `<<`
pair_pure : (rule : Pair → Bool) → rule Neither ≡ false → (a b : ℕ) → rule (pair_of a b) ≡ true
    → (is_character a ≡ true) × (is_character b ≡ true)
unfolding pair_of
pair_pure rule none a b e = go (is_digit a) refl (is_digit b) refl (is_filler a && is_filler b) refl e
  where
    never : rule Neither ≡ true → ⊥
    never h = false≢true (sym none ∙ h)

    go : (x : Bool) → is_digit a ≡ x → (y : Bool) → is_digit b ≡ y → (z : Bool) → is_filler a && is_filler b ≡ z
        → rule (cond x (cond y (Known ((a - code "0") * 10 + (b - code "0"))) Neither) (cond z Unknown Neither)) ≡ true
        → (is_character a ≡ true) × (is_character b ≡ true)
    go true p true q z r h = (digit_in a p, digit_in b q)
    go true p false q z r h = absurd (never h)
    go false p y q true r h = let both = and_both (is_filler a) (is_filler b) r in (filler_in a both.0, filler_in b both.1)
    go false p y q false r h = absurd (never h)

pub birth_pure : (s : List ℕ) → length s ≡ 6 → birth_rule s ≡ true → every is_character s ≡ true
unfolding birth_rule year_rule month_rule day_rule year_of month_of day_of
birth_pure s l e =
    let both = and_both (year_rule (year_of s))
    (month_rule (month_of s) && day_rule (days_in (year_of s) (month_of s)) (day_of s)) e in
    let more = and_both (month_rule (month_of s)) (day_rule (days_in (year_of s) (month_of s)) (day_of s)) both.1 in
    each
    (pair_pure year_rule refl (get_or s 0 0) (get_or s 1 0) both.0)
    (pair_pure month_rule refl (get_or s 2 0) (get_or s 3 0) more.0)
    (pair_pure (day_rule (days_in (year_of s) (month_of s))) refl (get_or s 4 0) (get_or s 5 0) more.1)
  where
    each : (is_character (get_or s 0 0) ≡ true) × (is_character (get_or s 1 0) ≡ true)
        → (is_character (get_or s 2 0) ≡ true) × (is_character (get_or s 3 0) ≡ true)
        → (is_character (get_or s 4 0) ≡ true) × (is_character (get_or s 5 0) ≡ true) → every is_character s ≡ true
    each year month day = every_each is_character s go
      where
        go : (i : ℕ) → i < length s → is_character (get_or s i 0) ≡ true
        go zero h = year.0
        go (suc zero) h = year.1
        go (suc (suc zero)) h = month.0
        go (suc (suc (suc zero))) h = month.1
        go (suc (suc (suc (suc zero)))) h = day.0
        go (suc (suc (suc (suc (suc zero))))) h = day.1
        go (suc (suc (suc (suc (suc (suc i)))))) h = absurd (omega arith)

pub expiry_pure : (s : List ℕ) → length s ≡ 6 → expiry_rule s ≡ true → every is_character s ≡ true
unfolding expiry_rule
expiry_pure s l e = birth_pure s l
    (and_both (is_known (year_of s) && (is_known (month_of s) && is_known (day_of s))) (birth_rule s) e).1

pub name_pure : (s : List ℕ) → every is_name_character s ≡ true → every is_character s ≡ true
unfolding every is_name_character
name_pure [] e = refl
name_pure (c ∷ s) e =
    let both = and_both (is_letter c || is_filler c) (every is_name_character s) e in
    rw (either_in c both.0, name_pure s both.1)

one_pure : (s : List ℕ) → length s ≡ 1 → sex_rule (get_or s 0 0) ≡ true → every is_character s ≡ true
one_pure s l e = every_each is_character s go
  where
    go : (i : ℕ) → i < length s → is_character (get_or s i 0) ≡ true
    go zero h = sex_pure (get_or s 0 0) e
    go (suc i) h = absurd (omega arith)

-- so of every field that has one width
pub plain_pure : (f : Form) (s : List ℕ) (x : Part) → is_plain x ≡ true → length s ≡ plain_room x → rule f x s ≡ true
    → every is_character s ≡ true
unfolding rule_rows
plain_pure f s = each_plain (λ x n. length s ≡ n → rule f x s ≡ true → every is_character s ≡ true) (code_pure f s) (state_pure s)
    (state_pure s) (birth_pure s) (one_pure s) (expiry_pure s)

-- a code tells whether it is a visa's
other_code : (a b n : ℕ) → eqb a n ≡ true → eqb n (code "V") ≡ false → is_visa_code a b ≡ false
unfolding is_visa_code
other_code a b n e other = rw (eqb-true a n e, other)

pub code_tells : (k : Kind) (a b : ℕ) → kind_rule k a b ≡ true → is_visa_code a b ≡ is_visa k
unfolding kind_rule card_rule passport_rule is_card_letter is_visa
code_tells Visa a b e = e
code_tells Passport a b e = other_code a b (code "P") (and_both (eqb a (code "P")) (is_second b) e).0 refl
code_tells Card a b e =
    go (or_either (eqb a (code "A") || eqb a (code "C")) (eqb a (code "I"))
    (and_both (eqb a (code "A") || eqb a (code "C") || eqb a (code "I")) _ e).0)
  where
    first_two : (eqb a (code "A") ≡ true) ⊎ (eqb a (code "C") ≡ true) → is_visa_code a b ≡ false
    first_two (inl h) = other_code a b (code "A") h refl
    first_two (inr h) = other_code a b (code "C") h refl

    go : (eqb a (code "A") || eqb a (code "C") ≡ true) ⊎ (eqb a (code "I") ≡ true) → is_visa_code a b ≡ false
    go (inl h) = first_two (or_either (eqb a (code "A")) (eqb a (code "C")) h)
    go (inr h) = other_code a b (code "I") h refl

-- The sum over what the composite covers is that over its parts: both are sums with a weight for each place of the text, and the
-- weights are the same.
use Prim.Native.Nat.{ℕ, zero, suc, ◌+◌, ◌*◌, ◌≤◌}
use mathlib.Core.Path.{◌≡◌, refl, ap, sym, ◌∙◌}
use mathlib.Core.Bool.{Bool, true, false, cond, ◌&&◌}
use mathlib.Core.List.{List, [], ◌∷◌, ◌++◌}
use native.Mathlib.Nat.{zero-mul, mul-zero, add-zero, zero-add, mul-add}
use native.Mathlib.Omega.{arith}
use borrow.Author.Rules.{rules}
use borrow.Author.Tests.{leb-true, leb-false}
use lib.Dec.{leb}
use lib.ListN.{length, take, drop, get_or, length-take, length-drop, drop_of_length-le}
use lib.Seq.{take-nil, get_or-drop}
use Rattle.lent.proofs.Bools.{and_both}
use Rattle.zone.specs.Alphabet.{is_digit, is_letter}
use Rattle.zone.specs.Part.{Part, number, number_check, optional, optional2, birth, birth_check, expiry, expiry_check, personal}
use Rattle.zone.specs.Part.{personal_check, composite}
use Rattle.zone.proofs.AllForms.{all_forms}
use Rattle.zone.proofs.Widths.{fixed, ones}
use Rattle.zone.specs.Rooms.{nine}
use Rattle.zone.specs.Form.{row, forms, start, start_in, width, width_in, field, has}
use Rattle.zone.specs.Form.{Piece, piece_of, pieces, cut, joined_cuts, covered}
use Rattle.zone.specs.Inner.Places.{before}
use Rattle.zone.specs.declared.form.Form.{Form}
use Rattle.digit.specs.Check.{value, weight, sum_from, check_of, digit_of}
use Rattle.digit.specs.Inner.Thirds.{as_digit}
use Rattle.digit.specs.Inner.Covered.{beside_sum, others_sum, sums_of, composite_sum}
use Rattle.digit.proofs.ByThirds.{weighed_sum}
use Rattle.digit.proofs.Sums.{sum_append}

-- ---- a weight for each place of the text

weigh : List ℕ → List ℕ → ℕ
weigh [] t = 0
weigh (w ∷ ws) [] = 0
weigh (w ∷ ws) (c ∷ t) = value c * w + weigh ws t

-- those of n characters, the first of which has the weight of a place
weights_from : (place n : ℕ) → List ℕ
weights_from place zero = []
weights_from place (suc n) = weight place ∷ weights_from (suc place) n

-- where so many characters stand before them
behind : ℕ → List ℕ → List ℕ
behind n [] = []
behind zero (w ∷ ws) = w ∷ ws
behind (suc n) (w ∷ ws) = 0 ∷ behind n (w ∷ ws)

-- two sums in one
both : List ℕ → List ℕ → List ℕ
both [] b = b
both (w ∷ ws) [] = w ∷ ws
both (w ∷ ws) (v ∷ vs) = (w + v) ∷ both ws vs

weigh_from : (place n : ℕ) (t : List ℕ) → sum_from place (take n t) ≡ weigh (weights_from place n) t
unfolding sum_from weigh weights_from
weigh_from place zero t = refl
weigh_from place (suc n) [] = refl
weigh_from place (suc n) (c ∷ t) = ap (λ m. value c * weight place + m) (weigh_from (suc place) n t)

weigh_behind : (n : ℕ) (ws t : List ℕ) → weigh ws (drop n t) ≡ weigh (behind n ws) t
unfolding weigh behind
weigh_behind n [] t = refl
weigh_behind zero (w ∷ ws) t = refl
weigh_behind (suc n) (w ∷ ws) [] = refl
weigh_behind (suc n) (w ∷ ws) (c ∷ t) =
    weigh_behind n (w ∷ ws) t ∙ sym (rw (mul-zero (value c), zero-add (weigh (behind n (w ∷ ws)) t)))

weigh_both : (a b t : List ℕ) → weigh (both a b) t ≡ weigh a t + weigh b t
unfolding weigh both
weigh_both [] b t = sym (zero-add (weigh b t))
weigh_both (w ∷ ws) [] t = sym (add-zero (weigh (w ∷ ws) t))
weigh_both (w ∷ ws) (v ∷ vs) [] = refl
weigh_both (w ∷ ws) (v ∷ vs) (c ∷ t) = rw (weigh_both ws vs t, mul-add (value c) w v) (omega arith)

-- ---- a part of the text, with weights that start at a place

record Weighed : Type 0 where
  place : ℕ
  start : ℕ
  width : ℕ

sum_over : List ℕ → List Weighed → ℕ
sum_over t [] = 0
sum_over t (p ∷ ps) = sum_from p.place (take p.width (drop p.start t)) + sum_over t ps

weights_over : List Weighed → List ℕ
weights_over [] = []
weights_over (p ∷ ps) = both (behind p.start (weights_from p.place p.width)) (weights_over ps)

weigh_over : (t : List ℕ) (ps : List Weighed) → sum_over t ps ≡ weigh (weights_over ps) t
unfolding sum_over weights_over weigh
weigh_over t [] = refl
weigh_over t (p ∷ ps) =
    rw (
      weigh_from p.place p.width (drop p.start t),
      weigh_behind p.start (weights_from p.place p.width) t,
      weigh_over t ps,
    )
    (sym (weigh_both (behind p.start (weights_from p.place p.width)) (weights_over ps) t))

-- ---- pieces, each with the weights that it has if those before it are whole

in_turn : ℕ → List Piece → List Weighed
in_turn place [] = []
in_turn place (s ∷ ss) = record { place = place; start = s.start; width = s.width } ∷ in_turn (place + s.width) ss

-- each piece begins at a place or behind it, and the next where it ends or behind
is_rising : ℕ → List Piece → Bool
is_rising from [] = true
is_rising from (s ∷ ss) = leb from s.start && is_rising (s.start + s.width) ss

-- where a text ends, no piece behind it has a character
none_behind : (t : List ℕ) (from : ℕ) (ss : List Piece) → is_rising from ss ≡ true → length t ≤ from → joined_cuts t ss ≡ []
unfolding is_rising joined_cuts cut
none_behind t from [] e h = refl
none_behind t from (s ∷ ss) e h =
    let both = and_both (leb from s.start) (is_rising (s.start + s.width) ss) e in
    let l = leb-true from s.start both.0 in
    let past : length t ≤ s.start = omega arith in
    rw (
      drop_of_length-le t past,
      take-nil s.width,
      none_behind t (s.start + s.width) ss both.1 (omega arith),
    )

-- so that a piece that is not whole is the last one
sum-each : (place from : ℕ) (t : List ℕ) (ss : List Piece) → is_rising from ss ≡ true
    → sum_from place (joined_cuts t ss) ≡ sum_over t (in_turn place ss)
unfolding is_rising joined_cuts sum_over in_turn cut sum_from
sum-each place from t [] e = refl
sum-each place from t (s ∷ ss) e =
    let behind = (and_both (leb from s.start) (is_rising (s.start + s.width) ss) e).1 in
    sum_append place (cut t s) (joined_cuts t ss)
    ∙ go behind (sum-each (place + s.width) (s.start + s.width) t ss behind) (leb (s.start + s.width) (length t)) refl
  where
    go : is_rising (s.start + s.width) ss ≡ true
        → sum_from (place + s.width) (joined_cuts t ss) ≡ sum_over t (in_turn (place + s.width) ss)
        → (b : Bool) → leb (s.start + s.width) (length t) ≡ b
        → sum_from place (cut t s) + sum_from (place + length (cut t s)) (joined_cuts t ss)
        ≡ sum_from place (cut t s) + sum_over t (in_turn (place + s.width) ss)
    go r e true h =
        let l = leb-true (s.start + s.width) (length t) h in
        let whole : length (take s.width (drop s.start t)) ≡ s.width = rw (length-take, length-drop) (omega arith) in
        rw (whole, e)
    go r e false h =
        let l = leb-false (s.start + s.width) (length t) h in
        let none = none_behind t (s.start + s.width) ss r (omega arith) in
        rw (← e, none)

rising : (f : Form) → is_rising 0 (pieces f) ≡ true
unfolding is_rising pieces piece_of row forms
rising = all_forms (λ f. is_rising 0 (pieces f) ≡ true) (search rules)

-- ---- the parts of a text that the composite covers

abbrev part : Form → ℕ → Part → Weighed
part f place x = record { place = place; start = start f x; width = width f x }

covered_parts : Form → List Weighed
covered_parts f =
    part f 0 number ∷ part f 10 birth ∷ part f 17 expiry ∷ part f 24 personal
    ∷ part f 9 number_check ∷ part f 16 birth_check ∷ part f 23 expiry_check
    ∷ part f (before (start f optional) (pieces f)) optional ∷ part f 39 optional2 ∷ part f 38 personal_check ∷ []

same_weights : (f : Form)
    → cond (has f composite) (weights_over (covered_parts f) ≡ weights_over (in_turn 0 (pieces f))) Unit
unfolding weights_over both behind weights_from covered_parts in_turn before pieces piece_of weight width width_in start start_in
    row
    forms
same_weights = all_forms
    (λ f. cond (has f composite) (weights_over (covered_parts f) ≡ weights_over (in_turn 0 (pieces f))) Unit)
    (search rules depth 9)

-- one character
sum_first : (place : ℕ) (t : List ℕ) → sum_from place (take 1 t) ≡ value (get_or t 0 0) * weight place
unfolding sum_from value is_digit is_letter
sum_first place [] = sym (zero-mul (weight place))
sum_first place (c ∷ t) = add-zero (value c * weight place)

sum_one : (f : Form) (x : Part) (place : ℕ) (t : List ℕ) → width f x ≡ 1
    → sum_from place (take (width f x) (drop (start f x) t)) ≡ value (get_or t (start f x) 0) * weight place
sum_one f x place t w =
    let i = start f x in
    let k : i + 0 ≡ i = add-zero i in
    rw w (sum_first place (drop i t) ∙ rw (get_or-drop i t 0 0, k))

covered_sum : (f : Form) (t : List ℕ) → has f composite ≡ true → sum_over t (covered_parts f) ≡ sum_from 0 (covered f t)
unfolding covered
covered_sum f t h =
    weigh_over t (covered_parts f)
    ∙ (ap (λ ws. weigh ws t) (rw h at (same_weights f))
    ∙ (sym (weigh_over t (in_turn 0 (pieces f))) ∙ sym (sum-each 0 0 t (pieces f) (rising f))))

parts_sum : (f : Form) (t : List ℕ)
    → sum_over t (covered_parts f)
    ≡ sum_from 0 (field f number t) + (sum_from 10 (field f birth t) + sum_from 17 (field f expiry t))
    + sum_from 24 (field f personal t) + others_sum f t
unfolding sum_over covered_parts field others_sum beside_sum
parts_sum f t =
    let one = ones f in
    omega (
      arith,
      sum_one f number_check 9 t one.number_check_one,
      sum_one f birth_check 16 t one.birth_check_one,
      sum_one f expiry_check 23 t one.expiry_check_one,
    )

-- the digit by the sums of a text is that of everything covered, in forms that have a composite
pub composite_digit : (f : Form) (t : List ℕ) → has f composite ≡ true
    → as_digit (composite_sum (sums_of f t)) ≡ digit_of (covered f t)
unfolding as_digit digit_of check_of sums_of composite_sum
composite_digit f t h =
    rw (
      weighed_sum 0 (field f number t),
      weighed_sum 10 (field f birth t),
      weighed_sum 17 (field f expiry t),
      weighed_sum 24 (field f personal t),
    )
    (omega (arith, covered_sum f t h, parts_sum f t))

-- a long number: its further characters stand behind the nine
number_before : (f : Form) → start f number + nine ≤ start f optional
unfolding start start_in row forms
number_before = all_forms (λ f. start f number + nine ≤ start f optional) (search rules)

pub long_sum : (f : Form) (t : List ℕ) (n : ℕ)
    → sum_from 0 (field f number t ++ take n (field f optional t))
    ≡ sum_from 0 (field f number t) + sum_from nine (take n (field f optional t))
unfolding field sum_from
long_sum f t n =
    sum_append 0 (field f number t) (take n (field f optional t)) ∙ go (leb (start f number + nine) (length t)) refl
  where
    go : (b : Bool) → leb (start f number + nine) (length t) ≡ b
        → sum_from 0 (field f number t) + sum_from (0 + length (field f number t)) (take n (field f optional t))
        ≡ sum_from 0 (field f number t) + sum_from nine (take n (field f optional t))
    go true h =
        let l = leb-true (start f number + nine) (length t) h in
        let whole : length (take (width f number) (drop (start f number) t)) ≡ nine =
        rw ((fixed f).number_width, length-take, length-drop) (omega arith) in
        rw (whole, zero-add)
    go false h =
        let l = leb-false (start f number + nine) (length t) h in
        let past : length t ≤ start f optional = omega (arith, number_before f) in
        rw (drop_of_length-le t past, take-nil (width f optional), take-nil n)

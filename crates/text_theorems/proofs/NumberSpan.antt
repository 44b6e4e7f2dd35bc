-- How a number stands, from whether it is long and where the first filler of the optional field is.
use Prim.Native.Nat.{ℕ, ◌-◌, ◌≤◌, ◌<◌}
use mathlib.Core.Path.{◌≡◌, refl}
use mathlib.Core.Bool.{Bool, true, false, cond, ◌&&◌, false≢true}
use mathlib.Core.List.{List}
use native.Mathlib.Omega.{arith}
use borrow.Author.Tests.{le-leb, lt-ltb, leb-true, ltb-true}
use lib.Dec.{leb, ltb}
use lib.ListN.{get_or}
use Rattle.lent.proofs.Bools.{and_both}
use Rattle.zone.specs.declared.form.Form.{Form}
use Rattle.zone.specs.Part.{number_check, optional}
use Rattle.zone.specs.Alphabet.{is_filler}
use Rattle.zone.specs.Form.{start, width, has, longest}
use Rattle.zone.specs.Rooms.{nine}
use Rattle.zone.proofs.Widths.{longest_number}
use Rattle.text_digits.specs.declared.number.Span.TheVariants.{Short, Long, Bad}
use Rattle.text_digits.specs.Number.{is_long, cut_at, span_of, span_rule}
use Rattle.text_theorems.specs.Accepted.{filler_at}

pub short_span : (f : Form) (t : List ℕ) → is_long f t ≡ false → span_of f t ≡ Short
unfolding span_of
short_span f t e = rw e

pub long_span : (f : Form) (t : List ℕ) → is_long f t ≡ true → 2 ≤ filler_at f t → filler_at f t < width f optional
    → span_of f t ≡ Long (filler_at f t - 1)
unfolding span_of cut_at
long_span f t e h k = rw (e, le-leb 2 (filler_at f t) h, lt-ltb (filler_at f t) (width f optional) k)

-- a long number that ends as it should has its filler where it should
pub span_ends : (f : Form) (t : List ℕ) → span_rule (span_of f t) ≡ true → is_long f t ≡ true
    → (2 ≤ filler_at f t) × (filler_at f t < width f optional)
unfolding span_of cut_at span_rule
span_ends f t e long = go (leb 2 k && ltb k w) refl (rw long at e)
  where
    k : ℕ
    k = filler_at f t

    w : ℕ
    w = width f optional

    go : (b : Bool) → leb 2 k && ltb k w ≡ b → span_rule (cond b (Long (k - 1)) Bad) ≡ true → (2 ≤ k) × (k < w)
    go true p q = let both = and_both (leb 2 k) (ltb k w) p in (leb-true 2 k both.0, ltb-true k w both.1)
    go false p q = absurd (bad q)
      where
        bad : span_rule Bad ≡ true → ⊥
        bad r = false≢true r

-- a long number is of a form that has them, and so has an optional field
pub long_form : (f : Form) (t : List ℕ) → is_long f t ≡ true → nine < longest f
unfolding is_long
long_form f t e = ltb-true nine (longest f) (and_both (ltb nine (longest f)) (is_filler (get_or t (start f number_check) 0)) e).0

pub long_has : (f : Form) (t : List ℕ) → is_long f t ≡ true → has f optional ≡ true
long_has f t e =
    let long = long_form f t e in
    lt-ltb 0 (width f optional) (omega (arith, (longest_number f).long_room long))

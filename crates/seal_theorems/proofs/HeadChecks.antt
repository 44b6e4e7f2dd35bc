-- The checks of a header, and what each says.
use Prim.Native.Nat.{ℕ, ◌+◌}
use mathlib.Core.Path.{◌≡◌}
use mathlib.Core.Logic.{◌⊎◌, inl, inr}
use mathlib.Core.Bool.{Bool, true}
use mathlib.Core.List.{List}
use borrow.Author.Tests.{eqb-true}
use lib.Dec.{eqb}
use lib.ListN.{get_or}
use Rattle.lent.proofs.Bools.{or_either}
use Rattle.refusal.specs.Outcome.{passed, or_else, unless}
use Rattle.refusal.proofs.Outcomes.{both_passed, unless_kept}
use Rattle.field.specs.Letters.{state_rule}
use Rattle.seal_fields.specs.Day.{is_day, day_at}
use Rattle.seal_header.specs.Reference.{version, width, reference, is_reference}
use Rattle.seal_header.specs.Header.{is_version, country, front_check, back_check, check_by, header_check}

-- the eight checks, and that all of them passed
pub record Passed (s : List ℕ) (v : ℕ) : Type 0 where
  pub starts : get_or s 0 0 ≡ 0xDC
  pub versioned : (version s ≡ 0x02) ⊎ (version s ≡ 0x03)
  pub stated : state_rule (country s) ≡ true
  pub referenced : is_reference (reference s) ≡ true
  pub issued_on : is_day (day_at s (4 + v)) ≡ true
  pub signed_on : is_day (day_at s (7 + v)) ≡ true
  pub defined : get_or s (10 + v) 0 ≡ 0x5E
  pub categorised : get_or s (11 + v) 0 ≡ 0x03

pub version_told : (v : ℕ) → is_version v ≡ true → (v ≡ 0x02) ⊎ (v ≡ 0x03)
unfolding is_version
version_told v e = go (or_either (eqb v 0x02) (eqb v 0x03) e)
  where
    go : (eqb v 0x02 ≡ true) ⊎ (eqb v 0x03 ≡ true) → (v ≡ 0x02) ⊎ (v ≡ 0x03)
    go (inl p) = inl (eqb-true v 0x02 p)
    go (inr p) = inr (eqb-true v 0x03 p)

told_version : (v : ℕ) → (v ≡ 0x02) ⊎ (v ≡ 0x03) → is_version v ≡ true
unfolding is_version
told_version v (inl p) = rw p
told_version v (inr p) = rw p

four_kept : (a b c d : Bool) (n p q r t : ℕ)
    → or_else (unless a n p) (or_else (unless b n q) (or_else (unless c n r) (unless d n t))) ≡ passed
    → (a ≡ true) × (b ≡ true) × (c ≡ true) × (d ≡ true)
four_kept a b c d n p q r t e =
    let x = both_passed (unless a n p) (or_else (unless b n q) (or_else (unless c n r) (unless d n t))) e in
    let y = both_passed (unless b n q) (or_else (unless c n r) (unless d n t)) x.1 in
    let z = both_passed (unless c n r) (unless d n t) y.1 in
    (unless_kept a n p x.0, unless_kept b n q y.0, unless_kept c n r z.0, unless_kept d n t z.1)

pub checks_passed : (s : List ℕ) → header_check s ≡ passed → Passed s (width s)
unfolding header_check check_by front_check back_check
checks_passed s e =
    let v = width s in
    let i = day_at s (4 + v) in
    let j = day_at s (7 + v) in
    let both = both_passed (front_check s (country s) (reference s)) (back_check s v i j) e in
    let x = four_kept (eqb (get_or s 0 0) 0xDC) (is_version (version s)) (state_rule (country s)) (is_reference (reference s))
    24 0 1 2 4 both.0 in
    let y = four_kept (is_day i) (is_day j) (eqb (get_or s (10 + v) 0) 0x5E) (eqb (get_or s (11 + v) 0) 0x03)
    24 (4 + v) (7 + v) (10 + v) (11 + v) both.1 in
    record {
      starts = eqb-true (get_or s 0 0) 0xDC x.0;
      versioned = version_told (version s) x.1;
      stated = x.2;
      referenced = x.3;
      issued_on = y.0;
      signed_on = y.1;
      defined = eqb-true (get_or s (10 + v) 0) 0x5E y.2;
      categorised = eqb-true (get_or s (11 + v) 0) 0x03 y.3;
    }

pub passed_checks : (s : List ℕ) → Passed s (width s) → header_check s ≡ passed
unfolding header_check check_by front_check back_check
passed_checks s p =
    rw (
      p.starts,
      told_version (version s) p.versioned,
      p.stated,
      p.referenced,
      p.issued_on,
      p.signed_on,
      p.defined,
      p.categorised,
    )

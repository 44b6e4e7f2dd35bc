-- Every refusal that comes before the text has what a refusal by one of a seal's numbers has whose place is no further than the
-- seal's end: the stages one by one. A header field that passes its check stands there, so that the next one's place is within
-- the seal.
use Prim.Native.Nat.{ℕ, zero, suc, ◌+◌, ◌≤◌, ◌<◌}
use mathlib.Core.Path.{◌≡◌, refl, subst}
use mathlib.Core.Logic.{◌⊎◌, inl, inr}
use mathlib.Core.Bool.{Bool, true, false, cond, false≢true}
use mathlib.Core.List.{List}
use native.Mathlib.Omega.{arith}
use borrow.Author.Tests.{eqb-true, leb-true, leb-false}
use lib.Dec.{eqb, leb}
use lib.ListN.{length, take, drop, get_or, length-take, length-drop, get_or-eq_default}
use Rattle.lent.proofs.Bools.{either_way}
use Rattle.refusal.specs.Numbers.{Why, by}
use Rattle.refusal.specs.Calls.{of_seal, tells}
use Rattle.refusal.specs.Outcome.{Outcome, passed, refused, or_else, unless}
use Rattle.refusal.proofs.Outcomes.{both_passed, unless_kept}
use Rattle.refusal.proofs.Each.{Each, each_passed, each_refused, each_after, each_unless}
use Rattle.field.specs.Letters.{state_rule}
use Rattle.tlv.specs.Read.{Read, value, refusal, and_then}
use Rattle.tlv.specs.Element.{element}
use Rattle.tlv.proofs.Past.{refused_there}
use Rattle.tlv.proofs.Joined.{first_value, never_value, same_value}
use Rattle.tlv.proofs.Each.{EachRead, each_value, each_refusal, each_then, each_checked}
use Rattle.c40.specs.Field.{octets_for}
use Rattle.c40.proofs.Fields.{field_within}
use Rattle.seal_fields.specs.Day.{is_day, day_of, number_in, day_at}
use Rattle.seal_header.specs.Reference.{version, reference_length, width, reference, is_reference}
use Rattle.seal_header.specs.Header.{is_version, country, front_check, back_check, check_by, header_check, header_end}
use Rattle.seal_features.specs.declared.features.Features.{Features}
use Rattle.seal_features.specs.Features.{numbered, signature_tag, feature_rule, feature_at, is_end, text_place, features_from}
use Rattle.seal_features.specs.Signature.{signature_at}
use Rattle.seal.specs.Seal.{placed}
use Rattle.seal_features.proofs.FeaturesPassed.{feature_within}
use Rattle.seal_theorems.proofs.HeadChecks.{version_told, checks_passed}
use Rattle.seal_theorems.proofs.HeadThere.{country_field}
use Rattle.seal_theorems.proofs.References.{least, reference_field}

-- ---- what stands where a check passes

module _ (s : List ℕ) where
  some_there : (i : ℕ) → 0 < get_or s i 0 → i < length s
  some_there i some = go (leb (length s) i) refl
    where
      go : (b : Bool) → leb (length s) i ≡ b → i < length s
      go false e = leb-false (length s) i e
      go true e =
          let none : get_or s i 0 ≡ 0 = get_or-eq_default s 0 {n = i} (leb-true (length s) i e) in
          absurd (omega (arith, some, none))

  day_there : (at : ℕ) → is_day (day_at s at) ≡ true → at + 3 ≤ length s
  unfolding is_day day_at day_of number_in
  day_there at kept = go (eqb (length (take 3 (drop at s))) 3) refl
    where
      go : (b : Bool) → eqb (length (take 3 (drop at s))) 3 ≡ b → at + 3 ≤ length s
      go true e =
          let three = eqb-true (length (take 3 (drop at s))) 3 e in
          omega (arith, three, length-take 3 (drop at s), length-drop at s)
      go false e = absurd (false≢true (rw e at kept))

  version_there : is_version (version s) ≡ true → 1 < length s
  unfolding version
  version_there kept = some_there 1 (go (version_told (get_or s 1 0) kept))
    where
      go : (get_or s 1 0 ≡ 0x02) ⊎ (get_or s 1 0 ≡ 0x03) → 0 < get_or s 1 0
      go (inl e) = omega (arith, e)
      go (inr e) = omega (arith, e)

  country_there : state_rule (country s) ≡ true → 4 ≤ length s
  unfolding octets_for
  country_there kept = field_within s 2 3 (country_field s kept) (omega arith)

  reference_there : is_reference (reference s) ≡ true → 4 + width s ≤ length s
  unfolding width
  reference_there kept = field_within s 4 (reference_length s) (reference_field s kept) (omega (arith, least s))

  pub header_there : header_check s ≡ passed → header_end s ≤ length s
  unfolding header_end
  header_there e =
      let last = (checks_passed s e).categorised in
      omega (arith, some_there (11 + width s) (omega (arith, last)))

  -- ---- the refusals

  module _ (P : Why → ℕ → Type 0) (plain : (n q : ℕ) → tells of_seal (by n) ≡ true → q ≤ length s → P (by n) q) where
    rule : (b : Bool) (q : ℕ) → q ≤ length s → Each P (unless b 24 q)
    rule b q h = each_unless P b 24 q (plain 24 q refl h)

    front_each : Each P (front_check s (country s) (reference s))
    unfolding front_check
    front_each =
        let dc = eqb (get_or s 0 0) 0xDC in
        let v = is_version (version s) in
        let c = state_rule (country s) in
        each_after P (unless dc 24 0) _ (rule dc 0 (omega arith)) (λ a.
        let first = eqb-true (get_or s 0 0) 0xDC (unless_kept dc 24 0 a) in
        let one = some_there 0 (omega (arith, first)) in
        each_after P (unless v 24 1) _ (rule v 1 (omega (arith, one))) (λ b.
        let two = version_there (unless_kept v 24 1 b) in
        each_after P (unless c 24 2) _ (rule c 2 (omega (arith, two))) (λ d.
        rule (is_reference (reference s)) 4 (country_there (unless_kept c 24 2 d)))))

    back_each : is_reference (reference s) ≡ true
        → Each P (back_check s (width s) (day_at s (4 + width s)) (day_at s (7 + width s)))
    unfolding back_check
    back_each referred =
        let w = width s in
        let issued = is_day (day_at s (4 + w)) in
        let signed = is_day (day_at s (7 + w)) in
        let defined = eqb (get_or s (10 + w) 0) 0x5E in
        each_after P (unless issued 24 (4 + w)) _ (rule issued (4 + w) (reference_there referred)) (λ a.
        let seven = day_there (4 + w) (unless_kept issued 24 (4 + w) a) in
        each_after P (unless signed 24 (7 + w)) _ (rule signed (7 + w) (omega (arith, seven))) (λ b.
        let ten = day_there (7 + w) (unless_kept signed 24 (7 + w) b) in
        each_after P (unless defined 24 (10 + w)) _ (rule defined (10 + w) (omega (arith, ten))) (λ c.
        let tag = eqb-true (get_or s (10 + w) 0) 0x5E (unless_kept defined 24 (10 + w) c) in
        let eleven = some_there (10 + w) (omega (arith, tag)) in
        rule (eqb (get_or s (11 + w) 0) 0x03) (11 + w) (omega (arith, eleven)))))

    pub head_each : Each P (header_check s)
    unfolding header_check check_by front_check
    head_each =
        let dc = unless (eqb (get_or s 0 0) 0xDC) 24 0 in
        let v = unless (is_version (version s)) 24 1 in
        let c = unless (state_rule (country s)) 24 2 in
        let r = is_reference (reference s) in
        each_after P (front_check s (country s) (reference s)) _ front_each (λ e.
        let behind = (both_passed dc (or_else v (or_else c (unless r 24 4))) e).1 in
        let more = (both_passed v (or_else c (unless r 24 4)) behind).1 in
        back_each (unless_kept r 24 4 (both_passed c (unless r 24 4) more).1))

    -- an element whose refusals have a number of their own
    numbered_each : (n at tag : ℕ) → P (by n) at → EachRead P (numbered (by n) (element s at tag))
    unfolding numbered
    numbered_each n at tag h = go (element s at tag) (refused_there s at tag)
      where
        go : {A : Type 0} (m : Read A) → ((k : Why) (q : ℕ) → m ≡ refusal k q → q ≡ at) → EachRead P (numbered (by n) m)
        go (value a) there = each_value P a
        go {A} (refusal k q) there = each_refusal P A (by n) q (rw (there k q refl) h)

    feature_each : (at text : ℕ) → at ≤ length s → EachRead P (feature_at s at text)
    unfolding feature_at
    feature_each at text h =
        each_then P (numbered (by 25) (element s at (get_or s at 0))) _
        (numbered_each 25 at (get_or s at 0) (plain 25 at refl h)) (λ v e.
        each_checked P (unless (feature_rule s at text v) 25 at) _
        (each_unless P (feature_rule s at text v) 25 at (plain 25 at refl h)) (each_value P v))

    pub walk_each : (k at text : ℕ) → at ≤ length s → EachRead P (features_from k s at text)
    unfolding features_from
    walk_each zero at text h = each_refusal P Features (by 25) at (plain 25 at refl h)
    walk_each (suc k) at text h =
        either_way (EachRead P) (is_end s at) _ _ (each_value P _)
        (each_then P (feature_at s at text) _ (feature_each at text h) (λ v e.
        walk_each k v.to (text_place s at text) (feature_within s at text v e).1))

    pub signature_each : (at : ℕ) → at ≤ length s → EachRead P (signature_at s at)
    unfolding signature_at
    signature_each at h =
        each_then P (numbered (by 27) (element s at signature_tag)) _
        (numbered_each 27 at signature_tag (plain 27 at refl h)) (λ v e.
        each_checked P (unless (eqb v.to (length s)) 27 at) _
        (each_unless P (eqb v.to (length s)) 27 at (plain 27 at refl h)) (each_value P v))

    pub placed_each : (at : ℕ) (o : Outcome) → ((n : Why) (p : ℕ) → o ≡ refused n p → P n at) → Each P (placed at o)
    unfolding placed
    placed_each at passed h = each_passed P
    placed_each at (refused n p) h = each_refused P n at (h n p refl)

  -- ---- where the features that were found stand

  abbrev In : Features → Type 0
  In f = (f.text ≤ length s) × (f.end ≤ length s)

  pub features_in : (k at text : ℕ) → at ≤ length s → text ≤ length s → (f : Features) → features_from k s at text ≡ value f
      → In f
  unfolding features_from text_place
  features_in zero at text h t f e = absurd (never_value _ at f e)
  features_in (suc k) at text h t f e = go (is_end s at) e (λ to b. features_in k to (text_place s at text) b placed_in f)
    where
      placed_in : text_place s at text ≤ length s
      placed_in = either_way (λ (n : ℕ). n ≤ length s) (eqb (get_or s at 0) 0x02) at text h t

      go : (b : Bool)
          → cond b (value (record { text = text; end = at }))
          (and_then (feature_at s at text) (λ v. features_from k s v.to (text_place s at text))) ≡ value f
          → ((to : ℕ) → to ≤ length s → features_from k s to (text_place s at text) ≡ value f → In f) → In f
      go true q below = subst In (same_value q) (t, h)
      go false q below =
          let one = first_value (feature_at s at text) _ f q in
          below one.0.to (feature_within s at text one.0 one.1).1 one.2

-- The walk over the features: each ends behind its place and within the seal, so that any number of steps that is enough gives
-- the same; and what one step of it does.
use Prim.Native.Nat.{ℕ, zero, suc, ◌+◌, ◌≤◌, ◌<◌}
use mathlib.Core.Path.{◌≡◌, refl, ap, sym, ◌∙◌, subst}
use mathlib.Core.Bool.{Bool, true, false, ◌||◌}
use mathlib.Core.List.{List}
use native.Mathlib.Omega.{arith}
use borrow.Author.Tests.{leb-false}
use lib.Dec.{eqb, leb}
use lib.ListN.{length, get_or}
use Rattle.refusal.specs.Numbers.{Why, by}
use Rattle.refusal.specs.Outcome.{passed, unless}
use Rattle.tlv.specs.declared.Stretch.{Stretch}
use Rattle.tlv.specs.Read.{Read, value, refusal, and_then, checked}
use Rattle.tlv.specs.Element.{element}
use Rattle.tlv.proofs.Joined.{first_value, checked_value, same_value, never_value}
use Rattle.tlv.proofs.Past.{value_within}
use Rattle.seal_features.specs.declared.features.Features.{Features}
use Rattle.seal_features.specs.Features.{numbered, feature_rule, feature_at, is_end, text_place, features_from, signature_tag}

pub numbered_value : {A : Type 0} (n : Why) (m : Read A) (a : A) → numbered n m ≡ value a → m ≡ value a
unfolding numbered
numbered_value n (value b) a e = e
numbered_value n (refusal k p) a e = absurd (never_value n p a e)

pub value_numbered : {A : Type 0} (n : Why) (m : Read A) (a : A) → m ≡ value a → numbered n m ≡ value a
unfolding numbered
value_numbered n m a e = rw e

-- a feature that is passed keeps its rule, and is an element
pub feature_value_lem : (s : List ℕ) (at text : ℕ) (v : Stretch) → feature_at s at text ≡ value v
    → (element s at (get_or s at 0) ≡ value v) × (unless (feature_rule s at text v) 25 at ≡ passed)
unfolding feature_at
feature_value_lem s at text v e =
    let a = first_value (numbered (by 25) (element s at (get_or s at 0)))
    (λ (u : Stretch). checked (unless (feature_rule s at text u) 25 at) (value u)) v e in
    let b = checked_value (unless (feature_rule s at text a.0) 25 at) (value a.0) v a.2 in
    let same : a.0 ≡ v = same_value b.1 in (
      numbered_value _ (element s at (get_or s at 0)) v (a.1 ∙ ap value same),
      subst (λ (u : Stretch). unless (feature_rule s at text u) 25 at ≡ passed) same b.0,
    )

pub feature_within : (s : List ℕ) (at text : ℕ) (v : Stretch) → feature_at s at text ≡ value v
    → (at < v.to) × (v.to ≤ length s)
feature_within s at text v e =
    let w = value_within s at (get_or s at 0) v (feature_value_lem s at text v e).0 in
    (omega (arith, w.0, w.1), w.2)

-- where it does not end, something stands
pub not_end : (s : List ℕ) (at : ℕ) → is_end s at ≡ false → at < length s
unfolding is_end
not_end s at e = leb-false (length s) at (first_false (leb (length s) at) (eqb (get_or s at 0) signature_tag) e)
  where
    first_false : (a b : Bool) → a || b ≡ false → a ≡ false
    first_false true b h = h
    first_false false b h = refl

-- ---- one step

pub walk_ends : (k : ℕ) (s : List ℕ) (at text : ℕ) → is_end s at ≡ true
    → features_from (suc k) s at text ≡ value (record { text = text; end = at })
unfolding features_from
walk_ends k s at text e = rw e

pub walk_refused : (k : ℕ) (s : List ℕ) (at text : ℕ) (n : Why) (p : ℕ) → is_end s at ≡ false → feature_at s at text ≡ refusal n p
    → features_from (suc k) s at text ≡ refusal n p
unfolding features_from and_then
walk_refused k s at text n p e r = rw (e, r)

pub walk_passes : (k : ℕ) (s : List ℕ) (at text : ℕ) (v : Stretch) → is_end s at ≡ false → feature_at s at text ≡ value v
    → features_from (suc k) s at text ≡ features_from k s v.to (text_place s at text)
unfolding features_from and_then
walk_passes k s at text v e r = rw (e, r)

-- ---- any number of steps that is enough

module _ (s : List ℕ) where
  passing : (k m at text : ℕ) (x : Read Stretch) → feature_at s at text ≡ x → is_end s at ≡ false
      → ((v : Stretch) → at < v.to → v.to ≤ length s
      → features_from k s v.to (text_place s at text) ≡ features_from m s v.to (text_place s at text))
      → features_from (suc k) s at text ≡ features_from (suc m) s at text
  passing k m at text (value v) e b ih =
      let w = feature_within s at text v e in
      walk_passes k s at text v b e ∙ (ih v w.0 w.1 ∙ sym (walk_passes m s at text v b e))
  passing k m at text (refusal n p) e b ih = walk_refused k s at text n p b e ∙ sym (walk_refused m s at text n p b e)

  either : (k m at text : ℕ) (b : Bool) → is_end s at ≡ b
      → ((v : Stretch) → at < v.to → v.to ≤ length s
      → features_from k s v.to (text_place s at text) ≡ features_from m s v.to (text_place s at text))
      → features_from (suc k) s at text ≡ features_from (suc m) s at text
  either k m at text true b ih = walk_ends k s at text b ∙ sym (walk_ends m s at text b)
  either k m at text false b ih = passing k m at text (feature_at s at text) refl b ih

  pub walk_enough : (k m at text : ℕ) → at ≤ length s → length s < at + k → length s < at + m
      → features_from k s at text ≡ features_from m s at text
  walk_enough zero m at text h a b = absurd (omega arith)
  walk_enough (suc k) zero at text h a b = absurd (omega arith)
  walk_enough (suc k) (suc m) at text h a b = either k m at text (is_end s at) refl
      (λ v p q. walk_enough k m v.to (text_place s at text) q (omega arith) (omega arith))

-- what is left from a place on, behind feature 02 or not
unfoldable pub left_from : List ℕ → (at text : ℕ) → Read Features
left_from s at text = features_from (suc (length s)) s at text

pub left_next : (s : List ℕ) (at text : ℕ) (v : Stretch) → is_end s at ≡ false → feature_at s at text ≡ value v
    → left_from s v.to (text_place s at text) ≡ left_from s at text
unfolding left_from
left_next s at text v b e =
    let w = feature_within s at text v e in
    walk_enough s (suc (length s)) (length s) v.to (text_place s at text) w.1 (omega (arith, w.0)) (omega (arith, w.0))
    ∙ sym (walk_passes (length s) s at text v b e)

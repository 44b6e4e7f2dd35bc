-- The features that stand there are walked: others, a feature 02, others, and then FF.
use Prim.Native.Nat.{ℕ, zero, suc, ◌+◌, ◌≤◌, ◌<◌}
use mathlib.Core.Path.{◌≡◌, refl, ap, sym, ◌∙◌}
use mathlib.Core.Bool.{Bool, true, false, cond, not, ◌&&◌, false≢true, or-true}
use mathlib.Core.List.{List, [], ◌∷◌, ◌++◌, append_assoc, append-nil}
use native.Mathlib.Nat.{add-zero}
use native.Mathlib.Omega.{arith}
use borrow.Author.Tests.{eq-eqb, lt-leb, ltb-true, not-true}
use lib.Dec.{eqb, leb, ltb}
use lib.ListN.{length, drop, get_or, length-append, length-drop}
use Rattle.lent.proofs.Bools.{and_both, both_and}
use Rattle.refusal.specs.Numbers.{by}
use Rattle.refusal.specs.Outcome.{unless}
use Rattle.refusal.proofs.Outcomes.{kept_unless}
use Rattle.zone.specs.Alphabet.{every}
use Rattle.tlv.specs.declared.Stretch.{Stretch}
use Rattle.tlv.specs.Read.{Read, value, checked}
use Rattle.tlv.specs.Element.{tlv, element}
use Rattle.tlv.specs.Cut.{has_octets}
use Rattle.tlv.proofs.Joined.{value_then, value_checked}
use Rattle.tlv.proofs.Encoded.{length-tlv, some_head, tag_first}
use Rattle.tlv.proofs.Standing.{element_read, octets_had, to_behind}
use Rattle.seal_features.specs.declared.features.Features.{Features}
use Rattle.seal_features.specs.Features.{numbered, text_tag, signature_tag, feature_rule, feature_at, is_end, text_place}
use Rattle.seal_features.specs.Features.{features_from, features}
use Rattle.seal_theorems.specs.Sealed.{Feature, feature_of, joined, is_other, are_others}
use Rattle.seal_features.proofs.FeaturesPassed.{value_numbered}

-- a walk that has come to a place, with what stands there, and steps enough to go on
record Came (s : List ℕ) (more at text : ℕ) (to found : ℕ) (r : List ℕ) : Type 0 where
  left : ℕ
  same_walk : features_from more s at text ≡ features_from left s to found
  left_enough : length s < to + left
  left_there : drop to s ≡ r
  to_within : to ≤ length s

-- no feature is empty
pub some_octets : (x : Feature) → 1 ≤ length (feature_of x)
unfolding feature_of
some_octets x = omega (arith, length-tlv x.tag x.content, some_head x.tag (length x.content))

-- a walk ends at FF
ends_here : (left : ℕ) (s : List ℕ) (end text : ℕ) → 0 < left → get_or s end 0 ≡ signature_tag
    → features_from left s end text ≡ value (record { text = text; end = end })
unfolding features_from is_end
ends_here zero s end text h e = absurd (omega arith)
ends_here (suc left) s end text h e = rw (e, or-true (leb (length s) end))

module _ (s : List ℕ) (most : length s ≤ 65535) where
  -- one feature that stands at a place
  module _ (at text : ℕ) (x : Feature) (r : List ℕ) (below : x.tag < 256)
      (rule : eqb x.tag text_tag ≡ true → (length x.content ≡ 48) × (text ≡ 0))
      (e : drop at s ≡ feature_of x ++ r) where
    tag_there : get_or s at 0 ≡ x.tag
    unfolding feature_of
    tag_there = tag_first s at x.tag x.content r below e

    read_feature : (v : Stretch) × (feature_at s at text ≡ value v) × (v.to ≡ at + length (feature_of x))
        × (drop v.to s ≡ r) × (v.to ≤ length s)
    unfolding feature_at feature_rule feature_of
    read_feature =
        let t = x.tag in
        let c = x.content in
        let a = element_read s at t most c r e in
        let v = a.0 in
        let h = a.2 in
        let kept : feature_rule s at text v ≡ true = rw tag_there (fits (eqb t text_tag) v
        (λ p. octets_had s at t c r v h 48 (rule p).0) (λ p. eq-eqb text 0 (rule p).1)) in
        let go : Stretch → Read Stretch = λ u. checked (unless (feature_rule s at text u) 25 at) (value u) in (
          v,
          value_then (numbered (by 25) (element s at (get_or s at 0))) go v (value v)
              (rw tag_there (value_numbered (by 25) (element s at t) v a.1))
              (value_checked (unless (feature_rule s at text v) 25 at) (value v) (value v)
              (kept_unless (feature_rule s at text v) 25 at kept) refl),
          to_behind s at t c r v h,
          h.rest_there,
          h.ends_within_lem,
        )
      where
        fits : (b : Bool) (v : Stretch) → (b ≡ true → has_octets 48 v ≡ true) → (b ≡ true → eqb text 0 ≡ true)
            → cond b (has_octets 48 v && eqb text 0) true ≡ true
        fits true v p q = both_and (p refl) (q refl)
        fits false v p q = refl

    some_feature : at < length s
    some_feature =
        let whole = sym (length-drop at s) ∙ ap length e ∙ length-append (feature_of x) r in
        omega (arith, some_octets x)

    one_passed : (more : ℕ) → eqb x.tag signature_tag ≡ false → length s < at + more
        → Came s more at text (at + length (feature_of x)) (cond (eqb x.tag text_tag) at text) r
    unfolding features_from is_end text_place
    one_passed zero other enough = absurd (omega (arith, some_feature))
    one_passed (suc more) other enough =
        let a = read_feature in
        let v = a.0 in
        let to = a.2 in
        let found = cond (eqb x.tag text_tag) at text in
        record {
          left = more;
          same_walk = rw (lt-leb (length s) at some_feature, tag_there, other)
              (value_then (feature_at s at text) (λ (u : Stretch). features_from more s u.to found) v
              (features_from more s (at + length (feature_of x)) found) a.1 (rw to));
          left_enough = omega (arith, some_octets x);
          left_there = rw to at a.3;
          to_within = omega (arith, a.4);
        }

  -- others that stand at a place
  others_passed : (fs : List Feature) (more at text : ℕ) (r : List ℕ) → are_others fs ≡ true → length s < at + more
      → at ≤ length s → drop at s ≡ joined fs ++ r → Came s more at text (at + length (joined fs)) text r
  unfolding joined are_others every is_other
  others_passed [] more at text r o enough within e = record {
    left = more;
    same_walk = rw (add-zero at);
    left_enough = omega arith;
    left_there = rw (add-zero at) e;
    to_within = omega arith;
  }
  others_passed (x ∷ fs) more at text r o enough within e =
      let all = and_both (is_other x.tag) (are_others fs) o in
      let a = and_both (ltb x.tag 256) (not (eqb x.tag text_tag) && not (eqb x.tag signature_tag)) all.0 in
      let b = and_both (not (eqb x.tag text_tag)) (not (eqb x.tag signature_tag)) a.1 in
      let other = not-true (eqb x.tag text_tag) b.0 in
      let p = one_passed at text x (joined fs ++ r) (ltb-true x.tag 256 a.0) (λ q. absurd (false≢true (sym other ∙ q)))
      (e ∙ append_assoc (feature_of x) (joined fs) r) more (not-true (eqb x.tag signature_tag) b.1) enough in
      let q = others_passed fs p.left (at + length (feature_of x)) text r all.1 p.left_enough p.to_within
      p.left_there in
      let to : at + length (feature_of x ++ joined fs) ≡ at + length (feature_of x) + length (joined fs) =
      omega (arith, length-append (feature_of x) (joined fs)) in
      record {
        left = q.left;
        same_walk = rw to (p.same_walk
            ∙ ap (λ (b : Bool). features_from p.left s (at + length (feature_of x)) (cond b at text)) other ∙ q.same_walk);
        left_enough = rw to q.left_enough;
        left_there = rw to q.left_there;
        to_within = rw to q.to_within;
      }

  -- others, a feature 02, others, and then FF: the two places are told
  pub features_walked : (bs cs : List Feature) (at : ℕ) (c g : List ℕ) → are_others bs ≡ true → are_others cs ≡ true
      → length c ≡ 48 → at ≤ length s → drop at s ≡ joined bs ++ (tlv text_tag c ++ (joined cs ++ tlv signature_tag g))
      → (f : Features) × (features s at ≡ value f) × (f.text ≡ at + length (joined bs))
      × (drop f.text s ≡ tlv text_tag c ++ (joined cs ++ tlv signature_tag g)) × (drop f.end s ≡ tlv signature_tag g)
  unfolding features feature_of
  features_walked bs cs at c g o u n within e =
      let text = at + length (joined bs) in
      let last = tlv signature_tag g in
      let a = others_passed bs (suc (length s)) at 0 (tlv text_tag c ++ (joined cs ++ last)) o (omega arith) within e in
      let b = one_passed text 0 (record { tag = text_tag; content = c }) (joined cs ++ last) (omega arith) (λ p. (n, refl))
      a.left_there a.left refl a.left_enough in
      let behind = text + length (tlv text_tag c) in
      let d = others_passed cs b.left behind text last u b.left_enough b.to_within b.left_there in
      let end = behind + length (joined cs) in
      let ff : get_or s end 0 ≡ signature_tag = tag_first s end signature_tag g [] (omega arith)
      (d.left_there ∙ sym (append-nil last)) in (
        record { text = text; end = end },
        a.same_walk ∙ b.same_walk ∙ d.same_walk
            ∙ ends_here d.left s end text (omega (arith, d.left_enough, d.to_within)) ff,
        refl,
        a.left_there,
        d.left_there,
      )

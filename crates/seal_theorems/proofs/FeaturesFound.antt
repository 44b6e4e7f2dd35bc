-- The features that are walked stand there: joined encodings, of which one at most is that of a feature 02.
use Prim.Native.Nat.{ℕ, zero, suc, ◌+◌, ◌-◌, ◌<◌}
use mathlib.Core.Path.{◌≡◌, refl, ap, sym, ◌∙◌}
use mathlib.Core.Bool.{Bool, true, false, cond, ◌&&◌}
use mathlib.Core.List.{List, [], ◌∷◌, ◌++◌, append_assoc}
use native.Mathlib.Nat.{add-zero}
use native.Mathlib.Omega.{arith}
use borrow.Author.Tests.{eqb-true, lt-ltb}
use lib.Dec.{eqb, leb}
use lib.ListN.{length, take, drop, get_or, length-append}
use Rattle.lent.proofs.Bools.{and_both, both_and, or_neither, not_so}
use Rattle.refusal.proofs.Outcomes.{unless_kept}
use Rattle.zone.specs.Alphabet.{every}
use Rattle.zone.specs.Octets.{AreOctets}
use Rattle.zone.proofs.Octets.{octet_below}
use Rattle.tlv.specs.declared.Stretch.{Stretch}
use Rattle.tlv.specs.Read.{Read, value, and_then}
use Rattle.tlv.specs.Element.{tlv}
use Rattle.tlv.specs.Cut.{has_octets}
use Rattle.tlv.proofs.Joined.{never_value, same_value, first_value}
use Rattle.tlv.proofs.Encoded.{Stands, reads}
use Rattle.tlv.proofs.Standing.{has_octets_lem, place_behind, to_behind}
use Rattle.seal_features.specs.declared.features.Features.{Features}
use Rattle.seal_features.specs.Features.{text_tag, signature_tag, feature_rule, feature_at, is_end, text_place, features_from}
use Rattle.seal_features.proofs.FeaturesPassed.{feature_value_lem}
use Rattle.seal_theorems.specs.Sealed.{Feature, feature_of, joined, is_other, are_others}

-- what a walk from a place on passed, where text is the place of the feature 02 that stood before, 0 where none did
pub data Found (s : List ℕ) (at text : ℕ) (f : Features) : Type 0 where
  -- no feature 02
  without : (fs : List Feature) → are_others fs ≡ true → drop at s ≡ joined fs ++ drop f.end s → f.text ≡ text
      → Found s at text f
  -- one, where none stood before
  with : (bs cs : List Feature) (c : List ℕ) → text ≡ 0 → are_others bs ≡ true → are_others cs ≡ true → length c ≡ 48
      → drop at s ≡ joined bs ++ (tlv text_tag c ++ (joined cs ++ drop f.end s)) → f.text ≡ at + length (joined bs)
      → Found s at text f

module _ (s : List ℕ) (at text : ℕ) (small : AreOctets s) where
  abbrev tag : ℕ
  tag = get_or s at 0

  -- one feature that is read
  feature_read : (v : Stretch) → feature_at s at text ≡ value v
      → (feature_rule s at text v ≡ true) × Stands s at tag (take (v.to - v.from) (drop v.from s)) (drop v.to s) v
  feature_read v e =
      let w = feature_value_lem s at text v e in
      (unless_kept (feature_rule s at text v) 25 at w.1, reads s at tag (octet_below s small) v w.0)

  -- another feature before what was found
  one_other : (f : Features) (c : List ℕ) (v : Stretch) → is_other tag ≡ true → Stands s at tag c (drop v.to s) v
      → Found s v.to text f → Found s at text f
  unfolding joined feature_of are_others every
  one_other f c v o h (without fs a e p) =
      without (record { tag = tag; content = c } ∷ fs) (both_and o a)
      (h.octets_there ∙ ap (λ (l : List ℕ). tlv tag c ++ l) e ∙ sym (append_assoc (tlv tag c) (joined fs) (drop f.end s))) p
  one_other f c v o h (with bs cs d z a b n e p) =
      let rest = tlv text_tag d ++ (joined cs ++ drop f.end s) in
      with (record { tag = tag; content = c } ∷ bs) cs d z (both_and o a) b n
      (h.octets_there ∙ ap (λ (l : List ℕ). tlv tag c ++ l) e ∙ sym (append_assoc (tlv tag c) (joined bs) rest))
      (p ∙ omega (arith, to_behind s at tag c (drop v.to s) v h, length-append (tlv tag c) (joined bs)))

  -- a feature 02 before what was found
  one_text : (f : Features) (c : List ℕ) (v : Stretch) → 0 < at → tag ≡ text_tag → length c ≡ 48 → text ≡ 0
      → Stands s at tag c (drop v.to s) v → Found s v.to at f → Found s at text f
  unfolding joined are_others every
  one_text f c v some t n z h (without fs a e p) =
      with [] fs c z refl a n
      (h.octets_there ∙ ap (λ (x : ℕ). tlv x c ++ drop v.to s) t ∙ ap (λ (l : List ℕ). tlv text_tag c ++ l) e)
      (p ∙ sym (add-zero at))
  one_text f c v some t n z h (with bs cs d y a b m e p) = absurd (omega arith)

  -- a feature, and what was found behind it
  one_more_lem : (f : Features) (v : Stretch) → 0 < at → eqb tag signature_tag ≡ false → feature_at s at text ≡ value v
      → Found s v.to (text_place s at text) f → Found s at text f
  unfolding text_place feature_rule is_other
  one_more_lem f v some other e rest =
      let r = feature_read v e in
      go (eqb tag text_tag) refl r.0 r.1 rest
    where
      c : List ℕ
      c = take (v.to - v.from) (drop v.from s)

      go : (b : Bool) → eqb tag text_tag ≡ b → cond b (has_octets 48 v && eqb text 0) true ≡ true
          → Stands s at tag c (drop v.to s) v → Found s v.to (cond b at text) f → Found s at text f
      go true p q h found =
          let both = and_both (has_octets 48 v) (eqb text 0) q in
          one_text f c v some (eqb-true tag text_tag p) (has_octets_lem s at tag c (drop v.to s) v h 48 both.0)
          (eqb-true text 0 both.1) h found
      go false p q h found =
          one_other f c v (both_and (lt-ltb tag 256 (octet_below s small at)) (both_and (not_so (eqb tag text_tag) p)
          (not_so (eqb tag signature_tag) other))) h found

pub features_found_lem : (more : ℕ) (s : List ℕ) (at text : ℕ) (f : Features) → AreOctets s → 0 < at
    → features_from more s at text ≡ value f
    → Found s at text f
unfolding features_from is_end joined are_others every
features_found_lem zero s at text f small some e = absurd (never_value _ at f e)
features_found_lem (suc more) s at text f small some e =
    go (is_end s at) refl e (λ (n m : ℕ) k q. features_found_lem more s n m f small k q)
  where
    onwards : Stretch → Read Features
    onwards v = features_from more s v.to (text_place s at text)

    go : (b : Bool) → is_end s at ≡ b
        → cond b (value (record { text = text; end = at })) (and_then (feature_at s at text) onwards) ≡ value f
        → ((n m : ℕ) → 0 < n → features_from more s n m ≡ value f → Found s n m f)
        → Found s at text f
    go true p q rest =
        let same : record { text = text; end = at } ≡ f = same_value q in
        without [] refl (ap (λ (g : Features). drop g.end s) same) (ap (λ (g : Features). g.text) (sym same))
    go false p q rest =
        let a = first_value (feature_at s at text) onwards f q in
        let v = a.0 in
        let h = (feature_read s at text small v a.1).1 in
        let places = place_behind s at (get_or s at 0) (take (v.to - v.from) (drop v.from s)) (drop v.to s) v h in
        one_more_lem s at text small f v some (or_neither (leb (length s) at) (eqb (get_or s at 0) signature_tag) p).1 a.1
        (rest v.to (text_place s at text) (omega (arith, places.0, places.1)) a.2)

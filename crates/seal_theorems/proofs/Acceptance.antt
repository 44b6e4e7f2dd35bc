-- ACCEPTANCE: a seal is accepted exactly when it is the joined encodings of a header, features and a signature that keep every
-- rule (`sealed_exactly`), and the whole answer is then that of these contents (`sealed_contents`, `sealed_answer`). Where every
-- rule is kept but those of the text, the text decides (`shaped_answer`).
use Prim.Native.Nat.{ℕ, suc, ◌+◌, ◌≤◌}
use mathlib.Core.Path.{◌≡◌, refl, ap, sym, ◌∙◌, subst}
use mathlib.Core.Logic.{◌↔◌}
use mathlib.Core.Bool.{false, not}
use mathlib.Core.List.{List, ◌++◌}
use native.Mathlib.Omega.{arith}
use borrow.Author.Tests.{eqb-false, ne_eqb, le-leb, not-true}
use lib.Dec.{eqb, leb}
use lib.ListN.{length, drop, length-append}
use lib.Seq.{drop_at}
use Rattle.lent.proofs.Bools.{not_so}
use Rattle.refusal.specs.Outcome.{passed, unless}
use Rattle.refusal.proofs.Outcomes.{kept_unless}
use Rattle.zone.specs.declared.form.Source.TheVariants.{Seal}
use Rattle.zone.specs.Octets.{AreOctets}
use Rattle.text.specs.Read.{read_text}
use Rattle.tlv.specs.Read.{value, checked}
use Rattle.tlv.specs.Element.{tlv}
use Rattle.tlv.specs.Cut.{cut}
use Rattle.tlv.proofs.Joined.{value_then, value_checked}
use Rattle.c40.specs.Image.{image_of}
use Rattle.c40.specs.Field.{is_field}
use Rattle.c40.proofs.Images.{image_length}
use Rattle.seal_fields.specs.Spaces.{filled}
use Rattle.seal_header.specs.Header.{header_check, header_of, header_end}
use Rattle.seal_features.specs.declared.features.Features.{Features}
use Rattle.seal_features.specs.Features.{text_tag, signature_tag, features}
use Rattle.seal_features.specs.Signature.{signature_at}
use Rattle.seal.specs.Seal as seal
use Rattle.seal.specs.Seal.{text_in, with_text, said_in, SealAnswer, answer_by, read_seal}
use Rattle.text_theorems.proofs.Acceptance.{accepted_exactly}
use Rattle.seal_theorems.specs.Sealed.{head_octets, Contents, joined, octets_of, Shaped}
use Rattle.seal_theorems.specs.Sealed.{Sealed, feature_place, header_in, signature_in, answer_in}
use Rattle.seal_theorems.specs.Expected.{Zones, zones_in}
use Rattle.seal_theorems.proofs.Places.{then_there}
use Rattle.seal_theorems.proofs.HeadThere.{header_read}
use Rattle.seal_theorems.proofs.HeadRead.{read_head}
use Rattle.seal_theorems.proofs.FeaturesFound as walked
use Rattle.seal_theorems.proofs.FeaturesFound.{without, with, features_found_lem}
use Rattle.seal_theorems.proofs.FeaturesWalked.{features_walked}
use Rattle.seal_theorems.proofs.TextFeature.{image_inside, inside_image}
use Rattle.seal_theorems.proofs.SignatureRead.{signature_read, read_signature}
use Rattle.seal_theorems.proofs.Stages.{some_header, Before, from_signature, from_image, from_features, from_header}
use Rattle.seal_theorems.proofs.Stages.{before_text, onwards, through_text, passed_text, taken_apart, passed_value}

-- ---- from an accepted seal to its contents

-- contents whose octets stand one behind the other
all_there : (s : List ℕ) (p : Contents) (at end : ℕ) (c : List ℕ) → s ≡ head_octets p.head ++ drop at s
    → drop at s ≡ joined p.before ++ (tlv text_tag c ++ (joined p.behind ++ drop end s)) → c ≡ image_of p.text
    → drop end s ≡ tlv signature_tag p.signature
    → octets_of p ≡ s
unfolding octets_of
all_there s p at end c e f i g = sym (e ∙ rw (f, i, g))

-- the contents of a seal whose zones were found, and where its text stands in them
pub zones_contents : (s : List ℕ) → AreOctets s → (z : Zones) → zones_in s ≡ value z
    → (p : Contents) × (s ≡ octets_of p) × Shaped p × (p.text ≡ text_in s z.message)
unfolding features
zones_contents s small z e =
    go (features_found_lem (suc (length s)) s (header_end s) 0 f small (some_header s) k.walk_stage)
  where
    k : Before s z
    k = before_text s z e

    f : Features
    f = z.message

    go : walked.Found s (header_end s) 0 f → (p : Contents) × (s ≡ octets_of p) × Shaped p × (p.text ≡ text_in s f)
    go (without fs o e z) = absurd (eqb-false f.text 0 (not-true (eqb f.text 0) k.some_stage) z)
    go (with bs cs d y o u n e place) =
        let h = header_read s small k.head_stage in
        let at = header_end s in
        let rest = tlv text_tag d ++ (joined cs ++ drop f.end s) in
        let there : drop f.text s ≡ rest = ap (λ (m : ℕ). drop m s) place
        ∙ (then_there s at (length (joined bs)) (joined bs) rest refl e).1 in
        let text = image_inside s f d (joined cs ++ drop f.end s) n there small k.field_stage in
        let g = cut s z.signature in
        let p : Contents = record { head = h.0; before = bs; text = text_in s f; behind = cs; signature = g } in
        let last = signature_read s f.end small z.signature k.signature_stage in
        let whole : octets_of p ≡ s = all_there s p at f.end d h.2 e text.2 last in (
          p,
          sym whole,
          record {
            size = subst (λ (l : List ℕ). length l ≤ 65535) (sym whole) k.size_stage;
            head_kept = h.1;
            before_others = o;
            behind_others = u;
            text_length = text.0;
            text_c40 = text.1;
          },
          refl,
        )

-- ---- and back

-- what is found in the octets of contents that keep every rule but those of the text
pub record Found (p : Contents) (z : Zones) : Type 0 where
  pub zones_found : zones_in (octets_of p) ≡ value z
  pub header_found : header_of (octets_of p) ≡ header_in p.head
  pub place_found : z.message.text ≡ feature_place p
  pub text_found : text_in (octets_of p) z.message ≡ p.text
  pub signature_found : z.signature ≡ signature_in p
  pub signature_there : cut (octets_of p) (signature_in p) ≡ p.signature

pub contents_zones : (p : Contents) → Shaped p → (z : Zones) × Found p z
unfolding zones_in octets_of feature_place signature_in
contents_zones p k =
    let s = octets_of p in
    let most = k.size in
    let c = image_of p.text in
    let g = p.signature in
    let n : length c ≡ 48 = image_length p.text ∙ rw k.text_length in
    let last = joined p.behind ++ tlv signature_tag g in
    let rest = joined p.before ++ (tlv text_tag c ++ last) in
    let h = read_head s rest p.head k.head_kept refl in
    let end = header_end s in
    let there : drop end s ≡ rest = drop_at (head_octets p.head) rest end (sym h.head_end) in
    let within : end ≤ length s = omega (arith, h.head_end, length-append (head_octets p.head) rest) in
    let a = features_walked s most p.before p.behind end c g k.before_others k.behind_others n within there in
    let f = a.0 in
    let i = inside_image s f c last n a.3 p.text k.text_length k.text_c40 refl in
    let v = read_signature s f.end g most a.4 in
    let z : Zones = record { message = f; signature = signature_in p } in
    let r = value z in
    let some : eqb f.text 0 ≡ false = ne_eqb f.text 0 (λ q. omega (arith, a.2, some_header s)) in (
      z,
      record {
        zones_found = value_checked (unless (leb (length s) 65535) 1 0) (checked (header_check s) (from_header s)) r
            (kept_unless (leb (length s) 65535) 1 0 (le-leb (length s) 65535 most))
            (value_checked (header_check s) (from_header s) r h.head_passed
            (value_then (features s end) (from_features s) f r a.1
            (value_checked (unless (not (eqb f.text 0)) 25 f.end) (from_image s f) r
            (kept_unless (not (eqb f.text 0)) 25 f.end (not_so (eqb f.text 0) some))
            (value_checked (unless (is_field (seal.feature_octets s f) 2 72) 26 f.text) (from_signature s f) r
            (kept_unless (is_field (seal.feature_octets s f) 2 72) 26 f.text i.0)
            (value_then (signature_at s f.end) _ (signature_in p) r v.0 refl)))));
        header_found = h.head_read;
        place_found = a.2 ∙ ap (λ (m : ℕ). m + length (joined p.before)) h.head_end;
        text_found = i.1;
        signature_found = refl;
        signature_there = v.1;
      },
    )

-- ---- what is answered

-- the octets that the answer names are the signature
pub sealed_signature : (p : Contents) → Shaped p → cut (octets_of p) (signature_in p) ≡ p.signature
sealed_signature p k = (contents_zones p k).1.signature_there

-- where every rule is kept but those of the text, the text decides, at the feature's first octet
pub shaped_answer : (p : Contents) → Shaped p
    → said_in (octets_of p) ≡ with_text (header_in p.head) (feature_place p) (read_text Seal (filled p.text)) (signature_in p)
unfolding onwards
shaped_answer p k =
    let found = contents_zones p k in
    let w = found.1 in
    through_text (octets_of p)
    ∙ (value_then (zones_in (octets_of p)) (onwards (octets_of p)) found.0 _ w.zones_found
    (λ m. with_text (w.header_found m) (w.place_found m) (read_text Seal (filled (w.text_found m))) (w.signature_found m)))

-- the answer to the octets of contents that keep every rule: header fields, the record of the text, and the signature
pub sealed_answer : (p : Contents) → Sealed p → read_seal (octets_of p) ≡ answer_in p
unfolding read_seal answer_by answer_in
sealed_answer p k =
    let a = read_text Seal (filled p.text) in
    ap answer_by (shaped_answer p k.shaped ∙ passed_text (header_in p.head) (feature_place p) a (signature_in p)
    ((accepted_exactly Seal (filled p.text)).1 k.text_kept))

-- accepted octets are those of contents that keep every rule, and the whole answer is theirs
pub sealed_contents : (s : List ℕ) → AreOctets s → (read_seal s).outcome ≡ passed
    → (p : Contents) × (s ≡ octets_of p) × Sealed p × (read_seal s ≡ answer_in p)
unfolding read_seal
sealed_contents s small e =
    let c = passed_value (said_in s) e in
    let k = taken_apart s c.0 c.1 in
    let w = zones_contents s small k.zones k.zones_stage in
    let text : (read_text Seal (filled w.0.text)).outcome ≡ passed =
    ap (λ (t : List ℕ). (read_text Seal (filled t)).outcome) w.3 ∙ k.text_stage in
    let sealed : Sealed w.0 = record {
      shaped = w.2;
      text_kept = (accepted_exactly Seal (filled w.0.text)).0 text;
    } in
    (w.0, w.1, sealed, ap read_seal w.1 ∙ sealed_answer w.0 sealed)

-- octets are accepted exactly when they are those of contents that keep every rule
pub sealed_exactly : (s : List ℕ) → AreOctets s
    → ((read_seal s).outcome ≡ passed) ↔ ((p : Contents) × (s ≡ octets_of p) × Sealed p)
unfolding answer_in
sealed_exactly s small = (
  λ e. let w = sealed_contents s small e in (w.0, w.1, w.2),
  λ w. ap (λ (l : List ℕ). (read_seal l).outcome) w.1 ∙ ap (λ (a : SealAnswer). a.outcome) (sealed_answer w.0 w.2),
)

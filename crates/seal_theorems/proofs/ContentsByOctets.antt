-- The octets of a seal tell its contents (`seal_octets_tell`): no two contents that keep every rule but those of the text give
-- the same octets. So "its text" is one text.
use Prim.Native.Nat.{ℕ, ◌+◌, ◌≤◌, ◌<◌}
use mathlib.Core.Path.{◌≡◌, refl, ap, sym, ◌∙◌}
use mathlib.Core.Logic.{◌⊎◌, inl, inr}
use mathlib.Core.Bool.{true, not, ◌&&◌}
use mathlib.Core.List.{List, [], ◌∷◌, ◌++◌}
use native.Mathlib.Omega.{arith}
use borrow.Author.Tests.{ltb-true}
use lib.Dec.{eqb, ltb}
use lib.ListN.{length, take, drop, get_or, length-append}
use lib.Seq.{take_at, drop_at, take_all}
use Rattle.lent.proofs.Bools.{and_both}
use Rattle.zone.specs.Alphabet.{every}
use Rattle.zone.specs.Record.{padded}
use Rattle.zone.proofs.Padded.{take-padded}
use Rattle.tlv.specs.Element.{tlv}
use Rattle.tlv.specs.Cut.{cut}
use Rattle.tlv.proofs.Encoded.{length-tlv, prefix_free, tag_first}
use Rattle.tlv.proofs.Joined.{one_value}
use Rattle.c40.specs.Image.{image_of}
use Rattle.seal_header.specs.declared.header.Header.{Header}
use Rattle.seal_header.specs.Header.{header_of}
use Rattle.seal_features.specs.Features.{text_tag, signature_tag}
use Rattle.seal.specs.Seal.{text_in}
use Rattle.seal_header.specs.Head.{Head}
use Rattle.seal_theorems.specs.Sealed.{head_octets, Feature, Contents, feature_of, joined, octets_of, is_other, are_others}
use Rattle.seal_theorems.specs.Sealed.{HeadKept, Shaped, feature_place, header_in, signature_in}
use Rattle.seal_theorems.specs.Expected.{Zones, zones_in}
use Rattle.seal_fields.proofs.Spaced.{filled_tells}
use Rattle.seal_theorems.proofs.FeaturesWalked.{some_octets}
use Rattle.seal_theorems.proofs.Acceptance.{contents_zones}

-- two lists that begin with as many
same_front : (a b r q : List ℕ) → length a ≡ length b → a ++ r ≡ b ++ q → (a ≡ b) × (r ≡ q)
same_front a b r q n e =
    let m = length b in
    (sym (take_at a r m n) ∙ (ap (take m) e ∙ take_at b q m refl), sym (drop_at a r m n) ∙ (ap (drop m) e ∙ drop_at b q m refl))

-- ---- the header

certificate_short : (h : Head) → HeadKept h → length h.certificate ≤ 255
certificate_short h k = go k.version_kept
  where
    go : (h.version ≡ 0x02) ⊎ (h.version ≡ 0x03) → length h.certificate ≤ 255
    go (inl e) = omega (arith, k.reference_kept.certificate_five e)
    go (inr e) = k.reference_kept.certificate_most e

certificate_back : (h : Head) → HeadKept h → take (length h.certificate) (padded 255 h.certificate) ≡ h.certificate
certificate_back h k = take-padded 255 h.certificate ∙ take_all 255 h.certificate (certificate_short h k)

head_tells : (h k : Head) → HeadKept h → HeadKept k → header_in h ≡ header_in k → h ≡ k
unfolding header_in
head_tells h k x y e =
    let country : h.country ≡ k.country = filled_tells h.country k.country x.country_c40 y.country_c40
    (ap (λ (q : Header). q.country) e) in
    let count : length h.certificate ≡ length k.certificate = ap (λ (q : Header). q.reference_len) e in
    let room : padded 255 h.certificate ≡ padded 255 k.certificate = ap (λ (q : Header). q.reference) e in
    let certificate : h.certificate ≡ k.certificate =
    sym (certificate_back h x) ∙ ((λ i. take (count i) (room i)) ∙ certificate_back k y) in
    λ i. record {
      version = (e i).version;
      country = country i;
      signer = (e i).signer;
      certificate = certificate i;
      issued = (e i).issued;
      signed = (e i).signed_on;
    }

-- ---- the features

joined_tells : (fs gs : List Feature) → are_others fs ≡ true → are_others gs ≡ true → length (joined fs) ≤ 65535
    → joined fs ≡ joined gs
    → fs ≡ gs
unfolding joined are_others every is_other feature_of
joined_tells [] [] o u most e = refl
joined_tells [] (y ∷ gs) o u most e =
    absurd (omega (arith, some_octets y, ap length e ∙ length-append (feature_of y) (joined gs)))
joined_tells (x ∷ fs) [] o u most e =
    absurd (omega (arith, some_octets x, sym (length-append (feature_of x) (joined fs)) ∙ ap length e))
joined_tells (x ∷ fs) (y ∷ gs) o u most e =
    let a = and_both (is_other x.tag) (are_others fs) o in
    let b = and_both (is_other y.tag) (are_others gs) u in
    let s = tlv x.tag x.content ++ joined fs in
    let one : get_or s 0 0 ≡ x.tag = tag_first s 0 x.tag x.content (joined fs) (below x.tag a.0) refl in
    let two : get_or s 0 0 ≡ y.tag = tag_first s 0 y.tag y.content (joined gs) (below y.tag b.0) e in
    let tag : x.tag ≡ y.tag = sym one ∙ two in
    let long = length-append (tlv x.tag x.content) (joined fs) in
    let also : length s ≡ length (tlv y.tag y.content) + length (joined gs) =
    ap length e ∙ length-append (tlv y.tag y.content) (joined gs) in
    let c = prefix_free x.tag x.content y.content (joined fs) (joined gs)
    (omega (arith, length-tlv x.tag x.content)) (omega (arith, length-tlv y.tag y.content))
    (e ∙ ap (λ (t : ℕ). tlv t y.content ++ joined gs) (sym tag)) in
    let content : x.content ≡ y.content = c.0 in
    let rest : fs ≡ gs = joined_tells fs gs a.1 b.1 (omega arith) c.1 in
    λ i. record { tag = tag i; content = content i } ∷ rest i
  where
    below : (t : ℕ) → is_other t ≡ true → t < 256
    below t e = ltb-true t 256 (and_both (ltb t 256) (not (eqb t text_tag) && not (eqb t signature_tag)) e).0

-- ---- all of it

module _ (p q : Contents) (k : Shaped p) (l : Shaped q) (e : octets_of p ≡ octets_of q) where
  same_zones : (contents_zones p k).0 ≡ (contents_zones q l).0
  same_zones =
      one_value (zones_in (octets_of q)) (contents_zones p k).0 (contents_zones q l).0
      (ap zones_in (sym e) ∙ (contents_zones p k).1.zones_found) (contents_zones q l).1.zones_found

  same_text : p.text ≡ q.text
  same_text =
      sym (contents_zones p k).1.text_found ∙ ((λ i. text_in (e i) (same_zones i).message) ∙ (contents_zones q l).1.text_found)

  same_signature : p.signature ≡ q.signature
  same_signature =
      let x = (contents_zones p k).1 in
      let y = (contents_zones q l).1 in
      let there : signature_in p ≡ signature_in q =
      sym x.signature_found ∙ (ap (λ (z : Zones). z.signature) same_zones ∙ y.signature_found) in
      sym x.signature_there ∙ ((λ i. cut (e i) (there i)) ∙ y.signature_there)

  same_head : p.head ≡ q.head
  same_head =
      head_tells p.head q.head k.head_kept l.head_kept
      (sym (contents_zones p k).1.header_found ∙ (ap header_of e ∙ (contents_zones q l).1.header_found))

  same_place : feature_place p ≡ feature_place q
  same_place =
      sym (contents_zones p k).1.place_found
      ∙ (ap (λ (z : Zones). z.message.text) same_zones ∙ (contents_zones q l).1.place_found)

  pub seal_octets_tell : p ≡ q
  unfolding octets_of feature_place
  seal_octets_tell =
      let text : Contents → List ℕ = λ c. tlv text_tag (image_of c.text) in
      let last : Contents → List ℕ = λ c. tlv signature_tag c.signature in
      let behind : Contents → List ℕ = λ c. joined c.behind ++ last c in
      let rest : Contents → List ℕ = λ c. joined c.before ++ (text c ++ behind c) in
      let heads = ap (λ (h : Head). length (head_octets h)) same_head in
      let a = same_front (head_octets p.head) (head_octets q.head) (rest p) (rest q) heads e in
      let count : length (joined p.before) ≡ length (joined q.before) = omega (arith, same_place) in
      let b = same_front (joined p.before) (joined q.before) (text p ++ behind p) (text q ++ behind q) count a.1 in
      let c = same_front (text p) (text q) (behind p) (behind q)
      (ap (λ (t : List ℕ). length (tlv text_tag (image_of t))) same_text)
      b.1 in
      let lasts : length (last p) ≡ length (last q) = ap (λ (g : List ℕ). length (tlv signature_tag g)) same_signature in
      let wide = ap length c.1 in
      let one = length-append (joined p.behind) (last p) in
      let two = length-append (joined q.behind) (last q) in
      let d = same_front (joined p.behind) (joined q.behind) (last p) (last q) (omega arith) c.1 in
      let whole = length-append (head_octets p.head) (rest p) in
      let more = length-append (joined p.before) (text p ++ behind p) in
      let again = length-append (text p) (behind p) in
      let most = k.size in
      let before : p.before ≡ q.before =
      joined_tells p.before q.before k.before_others l.before_others (omega arith) b.0 in
      let after : p.behind ≡ q.behind =
      joined_tells p.behind q.behind k.behind_others l.behind_others (omega arith) d.0 in
      λ i. record {
        head = same_head i;
        before = before i;
        text = same_text i;
        behind = after i;
        signature = same_signature i;
      }

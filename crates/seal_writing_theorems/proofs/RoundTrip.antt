-- DEMANDED: a seal written is read back as what was given, and two different sets of inputs never give the same octets.
use Prim.Native.Nat.{ℕ, ◌-◌}
use mathlib.Core.Path.{◌≡◌, refl, ap, sym, ◌∙◌, subst}
use mathlib.Core.Logic.{◌↔◌}
use mathlib.Core.Bool.{true, ◌&&◌, false≢true}
use mathlib.Core.List.{List, [], ◌∷◌, ◌++◌, append_assoc}
use borrow.Author.Tests.{leb-true, le-leb}
use lib.Dec.{leb}
use lib.ListN.{length, take}
use lib.Seq.{take_at}
use Rattle.lent.proofs.Bools.{and_both, both_and}
use Rattle.refusal.specs.Outcome.{passed, unless}
use Rattle.refusal.proofs.Outcomes.{both_passed, unless_kept}
use Rattle.zone.specs.Alphabet.{is_character, every}
use Rattle.zone.specs.Form.{row, is_visa, is_alone, may_stand}
use Rattle.zone.specs.declared.form.Form.{Form}
use Rattle.zone.specs.declared.form.Form.TheVariants.{Td1, Td2, Td3, MrvA, MrvB}
use Rattle.zone.specs.declared.form.Source.TheVariants.{Seal}
use Rattle.zone.specs.declared.record.Record.{Record}
use Rattle.sound.specs.Sound.{is_sound}
use Rattle.sound.proofs.SoundRecord.{taken_apart}
use Rattle.writing.specs.Text.{text_of}
use Rattle.text.specs.Read.{Answer, read_text}
use Rattle.text_theorems.specs.Accepted.{Keeps}
use Rattle.text_theorems.proofs.TextOfRecord.{length-text, text_pure}
use Rattle.text_theorems.proofs.RoundTrip.{text_keeps, text_read_back_in}
use Rattle.tlv.specs.Element.{tag_octets, length_octets, tlv}
use Rattle.tlv.specs.Cut.{cut}
use Rattle.c40.specs.Image.{image_of}
use Rattle.seal_fields.specs.Spaces.{filled, spaced}
use Rattle.seal_fields.proofs.Spaced.{spaced_c40, filled_spaced}
use Rattle.seal_header.specs.declared.header.Header.{Header}
use Rattle.seal_header.specs.Head as headed
use Rattle.seal_header.specs.Head.{Head}
use Rattle.seal_features.specs.Features.{text_tag, signature_tag}
use Rattle.seal.specs.Seal.{SealAnswer, read_seal}
use Rattle.seal_theorems.specs.Sealed.{count_of, reference_of, head_octets}
use Rattle.seal_theorems.specs.Sealed.{joined, octets_of, are_others, Sealed, signature_in, answer_in}
use Rattle.seal_theorems.proofs.Acceptance.{sealed_answer, sealed_signature}
use Rattle.seal_writing.specs.Carried.{is_carried}
use Rattle.seal_writing.specs.Seal.{head_of, signed_octets, seal_octets, is_td2, is_fit, seal_check}
use Rattle.seal_writing.proofs.PartsJoined.{carried_apart, carried_joined}
use Rattle.seal_writing_theorems.specs.Written.{IsAccepted, Given, contents_of, given_back}
use Rattle.seal_writing_theorems.proofs.Headers.{length-spaced, head_kept, header_back}

-- the octets of a header are those that are said of seals that are read
head_same : (h : Head) → head_octets h ≡ headed.head_octets h
unfolding head_octets headed.head_octets reference_of headed.reference_of count_of headed.count_of
head_same h = refl

-- the form that stands in seals
td2_told : (f : Form) → is_td2 f ≡ true → f ≡ Td2
unfolding is_td2
td2_told Td1 e = absurd (false≢true e)
td2_told Td2 e = refl
td2_told Td3 e = absurd (false≢true e)
td2_told MrvA e = absurd (false≢true e)
td2_told MrvB e = absurd (false≢true e)

-- ---- what inputs have that are not refused

module _ (h : Header) (r : Record) (g : List ℕ) where
  pub given_apart : IsAccepted h r g → Given h r g
  unfolding IsAccepted seal_check is_fit
  given_apart e =
      let fits = leb (length (seal_octets h r g)) 65535 in
      let p = both_passed (unless (is_fit r) 17 0) (unless (is_carried h && fits) 28 0) e in
      let q = and_both (is_td2 r.form) (is_sound r) (unless_kept (is_fit r) 17 0 p.0) in
      let c = and_both (is_carried h) fits (unless_kept (is_carried h && fits) 28 0 p.1) in
      record {
        carried = carried_apart h c.0;
        td2 = td2_told r.form q.0;
        sound = q.1;
        size = leb-true (length (seal_octets h r g)) 65535 c.1;
      }

  fit : Given h r g → is_fit r ≡ true
  unfolding is_fit is_td2
  fit k = both_and (ap is_td2 k.td2) k.sound

  pub accepted_given : Given h r g → IsAccepted h r g
  unfolding IsAccepted seal_check
  accepted_given k =
      let size = le-leb (length (seal_octets h r g)) 65535 k.size in
      let both : is_carried h && leb (length (seal_octets h r g)) 65535 ≡ true = both_and (carried_joined h k.carried) size in
      rw (fit k, both)

  -- accepted exactly when every rule is kept
  pub accepted_exactly : IsAccepted h r g ↔ Given h r g
  accepted_exactly = (given_apart, accepted_given)

  -- ---- its octets are those of its contents

  pub contents_octets : octets_of (contents_of h r g) ≡ seal_octets h r g
  unfolding octets_of contents_of joined seal_octets signed_octets
  contents_octets =
      let text = tlv text_tag (image_of (spaced (text_of r))) in
      ap (λ (l : List ℕ). l ++ (text ++ tlv signature_tag g)) (head_same (head_of h))
      ∙ sym (append_assoc (headed.head_octets (head_of h)) text (tlv signature_tag g))

  module _ (k : Given h r g) where
    pure : every is_character (text_of r) ≡ true
    pure = text_pure r (taken_apart r k.sound)

    may_stand_lem : may_stand Seal r.form ≡ true
    unfolding may_stand row is_alone is_visa
    may_stand_lem = rw k.td2

    pub written_sealed : Sealed (contents_of h r g)
    unfolding contents_of are_others every row
    written_sealed = record {
      shaped = record {
        size = rw contents_octets k.size;
        head_kept = head_kept h k.carried;
        before_others = refl;
        behind_others = refl;
        text_length = length-spaced (text_of r) ∙ length-text r ∙ rw k.td2;
        text_c40 = spaced_c40 (text_of r) pure;
      };
      text_kept = (
        r.form,
        may_stand_lem,
        subst (Keeps r.form) (sym (filled_spaced (text_of r) pure))
            (text_keeps r (taken_apart r k.sound)),
      );
    }

    -- ---- and it is read back

    pub written_read_back : read_seal (seal_octets h r g) ≡ given_back h r g
    unfolding contents_of answer_in signature_in given_back
    written_read_back =
        let header = header_back h k.carried in
        let kept : (read_text Seal (filled (spaced (text_of r)))).kept ≡ r =
        ap (λ (u : List ℕ). (read_text Seal u).kept) (filled_spaced (text_of r) pure)
        ∙ ap (λ (a : Answer). a.kept) (text_read_back_in r k.sound Seal may_stand_lem) in
        let wide : length (octets_of (contents_of h r g)) ≡ length (seal_octets h r g) = ap length contents_octets in
        let same : answer_in (contents_of h r g) ≡ given_back h r g = λ i. record {
          outcome = passed;
          header = header i;
          kept = kept i;
          signature = record { from = wide i - length g; to = wide i };
        } in
        ap read_seal (sym contents_octets) ∙ sealed_answer (contents_of h r g) written_sealed ∙ same

    -- the signature stands where it says
    pub written_signature : cut (seal_octets h r g) (given_back h r g).signature ≡ g
    unfolding given_back signature_in contents_of
    written_signature =
        ap (λ (s : List ℕ). cut s (record { from = length s - length g; to = length s })) (sym contents_octets)
        ∙ sealed_signature (contents_of h r g) written_sealed.shaped

-- no two sets of inputs give the same octets
pub written_tells : (h j : Header) (r q : Record) (g f : List ℕ) → IsAccepted h r g → IsAccepted j q f
    → seal_octets h r g ≡ seal_octets j q f → (h ≡ j) × ((r ≡ q) × (g ≡ f))
unfolding given_back
written_tells h j r q g f a b e =
    let k = given_apart h r g a in
    let l = given_apart j q f b in
    let same : given_back h r g ≡ given_back j q f =
    sym (written_read_back h r g k) ∙ ap read_seal e ∙ written_read_back j q f l in
    let stands = ap (λ (x : SealAnswer). x.signature) same in
    let cuts : cut (seal_octets h r g) (given_back h r g).signature ≡ cut (seal_octets j q f) (given_back j q f).signature =
    λ i. cut (e i) (stands i) in (
      ap (λ (x : SealAnswer). x.header) same,
      (ap (λ (x : SealAnswer). x.kept) same, sym (written_signature h r g k) ∙ cuts ∙ written_signature j q f l),
    )

-- ---- what is signed

-- every octet before FF is the same whatever the signature is
pub signed_octets_lem : (h : Header) (r : Record) (g : List ℕ) → take (length (signed_octets h r)) (seal_octets h r g)
    ≡ signed_octets h r
unfolding seal_octets
signed_octets_lem h r g = take_at (signed_octets h r) (tlv signature_tag g) (length (signed_octets h r)) refl

-- and with an empty signature two octets stand behind them
pub unsigned_octets : (h : Header) (r : Record) → seal_octets h r [] ≡ signed_octets h r ++ (0xFF ∷ 0x00 ∷ [])
unfolding seal_octets tlv tag_octets length_octets
unsigned_octets h r = refl

-- The parts of a seal, where a header is carried and the text is that of a fit record, are its octets.
use Prim.Native.Nat.{ℕ}
use mathlib.Core.Path.{◌≡◌, refl, ap, sym, ◌∙◌}
use mathlib.Core.Bool.{Bool, true, false, ◌&&◌}
use mathlib.Core.List.{List, [], ◌∷◌, ◌++◌, append_assoc}
use borrow.Author.Tests.{eqb-true, leb-true, le-leb}
use lib.Dec.{eqb, leb}
use lib.ListN.{length, take, drop}
use Rattle.lent.proofs.Bools.{and_both}
use Rattle.zone.specs.Alphabet.{is_letter, is_filler, every}
use Rattle.zone.specs.Rooms.{state_room}
use Rattle.zone.specs.declared.record.Record.{Record}
use Rattle.zone.proofs.Every.{every_append, every_wider}
use Rattle.field.specs.Letters.{state_rule}
use Rattle.writing.specs.Text.{text_of}
use Rattle.tlv.specs.Element.{tag_octets, length_octets, tlv}
use Rattle.c40.specs.Values.{is_c40}
use Rattle.c40.specs.Image.{image_of}
use Rattle.c40.specs.Field.{octets_for}
use Rattle.c40.specs.Inner.Imaged.{reduced, imaged}
use Rattle.c40.proofs.Coding.{digit_c40, letter_c40}
use Rattle.c40.proofs.Images.{images_joined}
use Rattle.c40.proofs.Imaging.{imaged_text, imaged_length}
use Rattle.seal_fields.specs.Day.{is_day, day_octets}
use Rattle.seal_fields.specs.Hex.{is_hex, hexadecimal}
use Rattle.seal_fields.proofs.Short.{of_four}
use Rattle.seal_fields.proofs.Days.{day_octets_lem}
use Rattle.seal_fields.proofs.Hexadecimal.{said_two, hex_c40}
use Rattle.seal_fields.proofs.Spaced.{imaged_spaced}
use Rattle.seal_header.specs.declared.header.Header.{Header}
use Rattle.seal_header.specs.Reference.{is_letter_or_digit}
use Rattle.seal_header.specs.Head.{count_of, reference_of, head_octets}
use Rattle.seal_features.specs.Features.{text_tag, signature_tag}
use Rattle.seal_writing.specs.Carried.{is_shaped, is_emergency, is_signer, is_referred, is_carried, Carried}
use Rattle.seal_writing.specs.Seal.{head_of, signed_octets, seal_octets}
use Rattle.seal_writing.specs.Inner.Parts.{front_part, back_part, zone_start, zone_part, head_part, parts_of, seal_width}
use Rattle.seal_writing.proofs.PartsPut.{six_length}
use Rattle.seal_writing.proofs.WholePut.{certificate_length, head_length, parts_length}

-- ---- what a header that is carried has

pub carried_apart : (h : Header) → is_carried h ≡ true → Carried h
unfolding is_carried is_shaped is_emergency is_referred
carried_apart h e =
    let dated = is_day h.issued && is_day h.signed_on in
    let referred = is_referred h.reference h.reference_len in
    let stated = state_rule h.country && is_signer h.signer in
    let a = and_both (is_shaped h) (is_emergency h && (stated && (referred && dated))) e in
    let b = and_both (is_emergency h) (stated && (referred && dated)) a.1 in
    let c = and_both stated (referred && dated) b.1 in
    let d = and_both referred dated c.1 in
    let most = leb h.reference_len 255 in
    let p = and_both (eqb (length h.country) state_room) (eqb (length h.signer) 4 &&
    (eqb (length h.reference) 255 && most))
    a.0 in
    let q = and_both (eqb (length h.signer) 4) (eqb (length h.reference) 255 && most) p.1 in
    let r = and_both (eqb (length h.reference) 255) most q.1 in
    let u = and_both (eqb h.version 0x03) (eqb h.definition 0x5E && eqb h.category 0x03) b.0 in
    let v = and_both (eqb h.definition 0x5E) (eqb h.category 0x03) u.1 in
    let w = and_both (state_rule h.country) (is_signer h.signer) c.0 in
    let x = and_both (every is_hex (take h.reference_len h.reference))
    (every is_filler (drop h.reference_len h.reference)) d.0 in
    let y = and_both (is_day h.issued) (is_day h.signed_on) d.1 in
    record {
      country_three = eqb-true (length h.country) 3 p.0;
      signer_four = eqb-true (length h.signer) 4 q.0;
      reference_room = eqb-true (length h.reference) 255 r.0;
      reference_most = leb-true h.reference_len 255 r.1;
      version_three = eqb-true h.version 0x03 u.0;
      definition_so = eqb-true h.definition 0x5E v.0;
      category_so = eqb-true h.category 0x03 v.1;
      country_rule = w.0;
      signer_rule = w.1;
      reference_hex = x.0;
      reference_fillers = x.1;
      issued_day = y.0;
      signed_day = y.1;
    }

pub carried_joined : (h : Header) → Carried h → is_carried h ≡ true
unfolding is_carried is_shaped is_emergency is_referred
carried_joined h k = rw (
  k.country_three,
  k.signer_four,
  k.reference_room,
  le-leb h.reference_len 255 k.reference_most,
  k.version_three,
  k.definition_so,
  k.category_so,
  k.country_rule,
  k.signer_rule,
  k.reference_hex,
  k.reference_fillers,
  k.issued_day,
  k.signed_day,
)

-- ---- its parts are those of the seal

-- in one order or another, the same octets
all_joined : (v : ℕ) (a b c d e i z : List ℕ)
    → (((0xDC ∷ v ∷ []) ++ (a ++ b)) ++ (c ++ (d ++ (e ++ (0x5E ∷ 0x03 ∷ 0x02 ∷ 0x30 ∷ []))))) ++ (i ++ z)
    ≡ ((0xDC ∷ v ∷ (a ++ ((b ++ c) ++ (d ++ (e ++ (0x5E ∷ 0x03 ∷ [])))))) ++ (0x02 ∷ 0x30 ∷ i)) ++ z
all_joined v a b c d e i z = simp append_assoc

-- 48 octets have a tag and a length of one octet each
text_feature : (c : List ℕ) → length c ≡ 48 → tlv text_tag c ≡ 0x02 ∷ 0x30 ∷ c
unfolding tlv tag_octets length_octets
text_feature c n = rw n

zone_tlv : (g : List ℕ) → zone_part g ≡ tlv signature_tag g
unfolding zone_part zone_start tlv tag_octets
zone_tlv g = refl

either_c40 : (c : ℕ) → is_letter_or_digit c ≡ true → is_c40 c ≡ true
unfolding is_letter_or_digit
either_c40 c e = go (is_letter c) refl
  where
    go : (b : Bool) → is_letter c ≡ b → is_c40 c ≡ true
    go true p = letter_c40 c p
    go false p = digit_c40 c (rw p at e)

signer_c40 : (a : List ℕ) → length a ≡ 4 → is_signer a ≡ true → every is_c40 a ≡ true
unfolding is_signer every
signer_c40 = of_four (λ l. is_signer l ≡ true → every is_c40 l ≡ true) (λ a b c d e.
    let p = and_both (is_letter a && is_letter b) (is_letter_or_digit c && is_letter_or_digit d) e in
    let q = and_both (is_letter a) (is_letter b) p.0 in
    let r = and_both (is_letter_or_digit c) (is_letter_or_digit d) p.1 in
    rw (letter_c40 a q.0, letter_c40 b q.1, either_c40 c r.0, either_c40 d r.1))

module _ (h : Header) (k : Carried h) where
  certificate : List ℕ
  certificate = take h.reference_len h.reference

  counted : length (take h.reference_len h.reference) ≡ h.reference_len
  counted = certificate_length h k.country_three k.signer_four k.reference_room k.reference_most

  -- signer, count and certificate reference: the first six have an image of their own
  reference_joined : imaged (h.signer ++ hexadecimal h.reference_len) ++ imaged (take h.reference_len h.reference)
      ≡ image_of (reference_of (head_of h))
  unfolding reference_of count_of head_of
  reference_joined =
      let n = h.reference_len in
      let six = h.signer ++ hexadecimal n in
      let rest = take n h.reference in
      let two = (said_two n k.reference_most).0 in
      let pure : every is_c40 six ≡ true = every_append is_c40 h.signer (hexadecimal n)
      (signer_c40 h.signer k.signer_four k.signer_rule) (every_wider is_hex is_c40 hex_c40 (hexadecimal n) two) in
      let hexes : every is_c40 rest ≡ true = every_wider is_hex is_c40 hex_c40 rest k.reference_hex in
      rw (
        imaged_text six pure,
        imaged_text rest hexes,
        k.version_three,
        counted,
        ← append_assoc h.signer (hexadecimal n) rest,
      )
      (sym (images_joined 2 six rest (six_length h.signer n k.signer_four)))

  pub parts_seal : (r : Record) (g : List ℕ) → length (text_of r) ≡ 72 → parts_of h (text_of r) g ≡ seal_octets h r g
  unfolding parts_of head_part front_part back_part seal_octets signed_octets head_octets head_of octets_for
  parts_seal r g wide =
      let a = imaged h.country in
      let b = imaged (h.signer ++ hexadecimal h.reference_len) in
      let c = imaged (take h.reference_len h.reference) in
      let d = reduced (day_octets h.issued) in
      let e = reduced (day_octets h.signed_on) in
      let i = imaged (text_of r) in
      let long : length i ≡ 48 = imaged_length (text_of r) ∙ rw wide in
      all_joined h.version a b c d e i (zone_part g)
      ∙ rw (
        ← text_feature i long,
        reference_joined,
        imaged_spaced 1 h.country k.country_three,
        imaged_spaced 24 (text_of r) wide,
        day_octets_lem h.issued k.issued_day,
        day_octets_lem h.signed_on k.signed_day,
        zone_tlv g,
      )

  pub seal_length : (r : Record) (g : List ℕ) → length (text_of r) ≡ 72
      → length (seal_octets h r g) ≡ seal_width h.reference_len g
  seal_length r g wide =
      ap length (sym (parts_seal r g wide))
      ∙ parts_length h (text_of r) g
      (head_length h k.country_three k.signer_four k.reference_room k.reference_most) wide

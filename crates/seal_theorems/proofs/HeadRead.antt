-- Where the encoding of a head that keeps its rules stands in front, the header passes its checks and is read as that head; and
-- so both (`header_exactly`).
use Prim.Native.Nat.{ℕ, ◌+◌}
use mathlib.Core.Path.{◌≡◌, refl, ap, sym, ◌∙◌, subst}
use mathlib.Core.Logic.{◌⊎◌, ◌↔◌}
use mathlib.Core.Bool.{true}
use mathlib.Core.List.{List, [], ◌∷◌, ◌++◌}
use native.Mathlib.Omega.{arith}
use lib.ListN.{length, take, drop, length-append}
use lib.Seq.{take_at}
use Rattle.refusal.specs.Outcome.{passed}
use Rattle.zone.specs.Octets.{AreOctets}
use Rattle.zone.specs.Record.{padded}
use Rattle.zone.proofs.Padded.{padded_exact}
use Rattle.field.specs.Letters.{state_rule}
use Rattle.tlv.proofs.Encoded.{first_there}
use Rattle.c40.specs.Image.{image_of}
use Rattle.c40.specs.Field.{octets_for}
use Rattle.c40.proofs.Images.{image_length}
use Rattle.c40.proofs.Fields.{read_field}
use Rattle.seal_fields.specs.declared.day.Day.{Day}
use Rattle.seal_fields.specs.Day.{is_day, day_at, day_of, number_in}
use Rattle.seal_fields.specs.Spaces.{filled}
use Rattle.seal_fields.proofs.Filled.{length-filled}
use Rattle.seal_header.specs.Reference.{version, width, reference, is_reference, before}
use Rattle.seal_header.specs.Header.{country, header_check, header_by, said_by, header_of, header_end}
use Rattle.seal_fields.specs.Day.{three_octets, day_octets}
use Rattle.seal_header.specs.Head.{Head}
use Rattle.seal_theorems.specs.Sealed.{count_of, reference_of, head_octets, HeadKept, header_in}
use Rattle.seal_theorems.proofs.Places.{then_there}
use Rattle.seal_fields.proofs.Days.{day_read}
use Rattle.seal_theorems.proofs.References.{read_reference}
use Rattle.seal_theorems.proofs.HeadChecks.{passed_checks}
use Rattle.seal_theorems.proofs.HeadThere.{head_then, header_read}

-- what is read where the encoding of a head stands in front
pub record HeadRead (h : Head) (s : List ℕ) : Type 0 where
  pub head_passed : header_check s ≡ passed
  pub head_read : header_of s ≡ header_in h
  pub head_end : header_end s ≡ length (head_octets h)

length_day : (d : Day) → length (day_octets d) ≡ 3
unfolding day_octets three_octets
length_day d = refl

day_stands : (s : List ℕ) (at : ℕ) (d : Day) (r : List ℕ) → is_day d ≡ true → drop at s ≡ day_octets d ++ r
    → (day_at s at ≡ d) × (drop (at + 3) s ≡ r)
unfolding day_at
day_stands s at d r k e =
    let x = then_there s at 3 (day_octets d) r (length_day d) e in
    (ap (λ (l : List ℕ). day_of (number_in l)) x.0 ∙ day_read d k, x.1)

head_length : (h : Head) → length h.country ≡ 3 → length (head_octets h) ≡ 12 + length (image_of (reference_of h))
unfolding head_octets
head_length h k =
    let two : length (image_of h.country) ≡ 2 = image_length h.country ∙ rw k in
    rw (
      length-append (image_of h.country) (image_of (reference_of h)
          ++ (day_octets h.issued ++ (day_octets h.signed ++ (0x5E ∷ 0x03 ∷ [])))),
      length-append (image_of (reference_of h)) (day_octets h.issued ++ (day_octets h.signed ++ (0x5E ∷ 0x03 ∷ []))),
      length-append (day_octets h.issued) (day_octets h.signed ++ (0x5E ∷ 0x03 ∷ [])),
      length-append (day_octets h.signed) (0x5E ∷ 0x03 ∷ []),
    )
    (omega (arith, length_day h.issued, length_day h.signed))

module _ (s r : List ℕ) (h : Head) (k : HeadKept h) (e : s ≡ head_octets h ++ r) where
  pub read_head : HeadRead h s
  unfolding version country header_of said_by header_by header_in header_end reference_of octets_for
  read_head =
      let w = width s in
      let b : List ℕ = 0x5E ∷ 0x03 ∷ r in
      let j = day_octets h.signed ++ b in
      let i = day_octets h.issued ++ j in
      let f = image_of (reference_of h) ++ i in
      let c = image_of h.country ++ f in
      let x1 = first_there s 0 0xDC (h.version ∷ c) (e ∙ head_then h r) in
      let x2 = first_there s 1 h.version c x1.1 in
      let two : length (image_of h.country) ≡ 2 = image_length h.country ∙ rw k.country_length in
      let x3 = then_there s 2 2 (image_of h.country) f two x2.1 in
      let q = read_reference s i h k.reference_kept x2.0 x3.1 k.version_kept in
      let x4 = then_there s 4 w (image_of (reference_of h)) i (sym q.width_read) x3.1 in
      let x5 = day_stands s (4 + w) h.issued j k.issued_kept x4.1 in
      let seven : 4 + w + 3 ≡ 7 + w = omega arith in
      let ten : 7 + w + 3 ≡ 10 + w = omega arith in
      let eleven : 10 + w + 1 ≡ 11 + w = omega arith in
      let x6 = day_stands s (7 + w) h.signed b k.signed_kept (rw seven at x5.1) in
      let x7 = first_there s (10 + w) 0x5E (0x03 ∷ r) (rw ten at x6.1) in
      let x8 = first_there s (11 + w) 0x03 r (rw eleven at x7.1) in
      let field = (read_field s 2 3 h.country
      (record { field_length = k.country_length; field_c40 = k.country_c40; field_image = x3.0 })).1 in
      let three : length (filled h.country) ≡ 3 = length-filled h.country ∙ k.country_length in
      let stated : country s ≡ filled h.country = ap (λ (l : List ℕ). padded 3 (filled l)) field
      ∙ padded_exact 3 (filled h.country) three in
      let signer : padded 4 (take 4 (reference s)) ≡ h.signer = ap (λ (l : List ℕ). padded 4 (take 4 l)) q.reference_read
      ∙ ap (padded 4) (take_at h.signer (count_of h ++ h.certificate) 4 k.reference_kept.signer_length)
      ∙ padded_exact 4 h.signer k.reference_kept.signer_length in
      let certificate : drop (before s) (reference s) ≡ h.certificate = ap (drop (before s)) q.reference_read
      ∙ q.certificate_read in
      record {
        head_passed = passed_checks s (record {
          starts = x1.0;
          versioned = subst (λ (n : ℕ). (n ≡ 0x02) ⊎ (n ≡ 0x03)) (sym x2.0) k.version_kept;
          stated = ap state_rule stated ∙ k.country_kept;
          referenced = ap is_reference q.reference_read ∙ q.reference_kept;
          issued_on = ap is_day x5.0 ∙ k.issued_kept;
          signed_on = ap is_day x6.0 ∙ k.signed_kept;
          defined = x7.0;
          categorised = x8.0;
        });
        head_read = λ n. record {
          version = x2.0 n;
          country = stated n;
          signer = signer n;
          reference = padded 255 (certificate n);
          reference_len = length (certificate n);
          issued = x5.0 n;
          signed_on = x6.0 n;
          definition = x7.0 n;
          category = x8.0 n;
        };
        head_end = rw q.width_read (sym (head_length h k.country_length));
      }

-- the checks pass exactly where the encoding of a head that keeps its rules stands in front
pub header_exactly : (s : List ℕ) → AreOctets s
    → (header_check s ≡ passed) ↔ ((h : Head) × (r : List ℕ) × HeadKept h × (head_octets h ++ r ≡ s))
header_exactly s small = (
  λ e. let a = header_read s small e in (a.0, drop (header_end s) s, a.1, sym a.2),
  λ w. (read_head s w.1 w.0 w.2 (sym w.3)).head_passed,
)

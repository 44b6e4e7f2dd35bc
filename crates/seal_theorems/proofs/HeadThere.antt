-- Where a header passes its checks, the encoding of a head that keeps its rules stands in front.
use Prim.Native.Nat.{ℕ, ◌+◌, ◌<◌}
use mathlib.Core.Path.{◌≡◌, refl, ap, sym, ◌∙◌}
use mathlib.Core.Logic.{◌⊎◌, inl, inr}
use mathlib.Core.Bool.{Bool, true, false, false≢true}
use mathlib.Core.List.{List, [], ◌∷◌, ◌++◌, append_assoc}
use native.Mathlib.Omega.{arith}
use lib.ListN.{length, take, drop}
use Rattle.refusal.specs.Outcome.{passed}
use Rattle.zone.specs.Alphabet.{is_letter}
use Rattle.zone.specs.Octets.{is_octet, AreOctets}
use Rattle.zone.specs.Record.{padded}
use Rattle.zone.proofs.Every.{every_take, every_drop}
use Rattle.zone.proofs.Padded.{padded_exact}
use Rattle.field.specs.Letters.{letters_then_fillers, state_rule}
use Rattle.c40.specs.Image.{image_of}
use Rattle.c40.specs.Field.{octets_for, is_field, field_at}
use Rattle.c40.proofs.Exactly.{no_field}
use Rattle.c40.proofs.Fields.{FieldStands, field_read}
use Rattle.seal_fields.specs.Day.{is_day, day_at, day_of, number_in}
use Rattle.seal_fields.specs.Spaces.{filled}
use Rattle.seal_fields.proofs.Filled.{length-filled}
use Rattle.seal_header.specs.Reference.{version, reference_length, width}
use Rattle.seal_header.specs.Header.{country, header_check, header_end}
use Rattle.seal_fields.specs.Day.{day_octets}
use Rattle.seal_header.specs.Head.{Head}
use Rattle.seal_theorems.specs.Sealed.{reference_of, head_octets, HeadKept}
use Rattle.seal_theorems.proofs.Places.{there_then, octet_there}
use Rattle.seal_fields.proofs.Days.{read_day}
use Rattle.seal_theorems.proofs.References.{signer_at, certificate_at, Referred, reference_stands, referred}
use Rattle.seal_theorems.proofs.HeadChecks.{Passed, checks_passed}

-- the header's octets, and then others
pub head_then : (h : Head) (r : List ℕ)
    → head_octets h ++ r
    ≡ 0xDC ∷ h.version ∷ (image_of h.country ++ (image_of (reference_of h) ++ (day_octets h.issued ++ (day_octets h.signed
    ++ (0x5E ∷ 0x03 ∷ r)))))
unfolding head_octets
head_then h r = simp append_assoc

no_state : state_rule (padded 3 (filled [])) ≡ true → ⊥
unfolding state_rule letters_then_fillers is_letter filled padded
no_state e = false≢true e

-- no characters are no country
pub country_field : (s : List ℕ) → state_rule (country s) ≡ true → is_field s 2 3 ≡ true
unfolding country
country_field s kept = go (is_field s 2 3) refl
  where
    go : (b : Bool) → is_field s 2 3 ≡ b → b ≡ true
    go true q = refl
    go false q = absurd (no_state (ap (λ (l : List ℕ). state_rule (padded 3 (filled l))) (sym (no_field s 2 3 q)) ∙ kept))

-- a day that is read stands there
day_there : (s : List ℕ) (at : ℕ) → AreOctets s → is_day (day_at s at) ≡ true
    → drop at s ≡ day_octets (day_at s at) ++ drop (at + 3) s
unfolding day_at
day_there s at small e = there_then s at 3 (day_octets (day_of (number_in (take 3 (drop at s)))))
    (sym (read_day (take 3 (drop at s)) (every_take is_octet 3 (drop at s) (every_drop is_octet at s small)) e))

module _ (s : List ℕ) (small : AreOctets s) where
  -- the head that is read
  unfoldable pub head_at : Head
  head_at = record {
    version = version s;
    country = field_at s 2 3;
    signer = signer_at s;
    certificate = certificate_at s;
    issued = day_at s (4 + width s);
    signed = day_at s (7 + width s);
  }

  module _ (p : Passed s (width s)) where
    country_stands : FieldStands s 2 3 (field_at s 2 3)
    country_stands = field_read s 2 3 small (country_field s p.stated)

    reference_referred : Referred head_at s
    unfolding head_at
    reference_referred = referred s small p.referenced head_at refl refl refl p.versioned

    head_kept : HeadKept head_at
    unfolding head_at country
    head_kept =
        let t = field_at s 2 3 in
        let three : length (filled t) ≡ 3 = length-filled t ∙ country_stands.field_length in
        record {
          version_kept = p.versioned;
          country_length = country_stands.field_length;
          country_c40 = country_stands.field_c40;
          country_kept = ap state_rule (sym (padded_exact 3 (filled t) three)) ∙ p.stated;
          reference_kept = reference_referred.referred_kept;
          issued_kept = p.issued_on;
          signed_kept = p.signed_on;
        }

    some_version : 0 < version s
    some_version = go p.versioned
      where
        go : (version s ≡ 0x02) ⊎ (version s ≡ 0x03) → 0 < version s
        go (inl e) = omega arith
        go (inr e) = omega arith

    head_there : s ≡ head_octets head_at ++ drop (header_end s) s
    unfolding head_at header_end octets_for width version
    head_there =
        let w = octets_for (reference_length s) in
        let i = day_at s (4 + w) in
        let j = day_at s (7 + w) in
        let r = reference_of head_at in
        let seven : 4 + w + 3 ≡ 7 + w = omega arith in
        let ten : 7 + w + 3 ≡ 10 + w = omega arith in
        let eleven : 10 + w + 1 ≡ 11 + w = omega arith in
        let twelve : 11 + w + 1 ≡ 12 + w = omega arith in
        let x8 = rw twelve at (octet_there s (11 + w) 0x03 (omega arith) p.categorised) in
        let x7 = rw eleven at (octet_there s (10 + w) 0x5E (omega arith) p.defined) in
        let x6 = rw ten at (day_there s (7 + w) small p.signed_on) in
        let x5 = rw seven at (day_there s (4 + w) small p.issued_on) in
        let x4 = there_then s 4 w (image_of r)
        ((reference_stands s small p.referenced).field_image ∙ ap image_of (sym reference_referred.said_so)) in
        let x3 = there_then s 2 2 (image_of (field_at s 2 3)) country_stands.field_image in
        let x2 = octet_there s 1 (version s) some_version refl in
        let x1 = octet_there s 0 0xDC (omega arith) p.starts in
        let y7 : drop (10 + w) s ≡ 0x5E ∷ 0x03 ∷ drop (12 + w) s = x7 ∙ ap (λ (l : List ℕ). 0x5E ∷ l) x8 in
        let y6 = x6 ∙ ap (λ (l : List ℕ). day_octets j ++ l) y7 in
        let y5 = x5 ∙ ap (λ (l : List ℕ). day_octets i ++ l) y6 in
        let y4 = x4 ∙ ap (λ (l : List ℕ). image_of r ++ l) y5 in
        let y3 = x3 ∙ ap (λ (l : List ℕ). image_of (field_at s 2 3) ++ l) y4 in
        x1 ∙ ap (λ (l : List ℕ). 0xDC ∷ l) (x2 ∙ ap (λ (l : List ℕ). version s ∷ l) y3)
        ∙ sym (head_then head_at (drop (12 + w) s))

pub header_read : (s : List ℕ) → AreOctets s → header_check s ≡ passed
    → (h : Head) × HeadKept h × (s ≡ head_octets h ++ drop (header_end s) s)
header_read s small e =
    let p = checks_passed s e in
    (head_at s small, head_kept s small p, head_there s small p)

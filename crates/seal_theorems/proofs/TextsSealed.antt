-- ACCEPTANCE is not empty for seals: every text of 72 characters that is accepted in a seal is carried by octets that are
-- accepted, with the text's own record (`every_text_sealed`). So no reader that refuses everything, or always hands out the same
-- record, meets it.
use Prim.Native.Nat.{ℕ, ◌+◌, ◌≤◌}
use mathlib.Core.Path.{◌≡◌, refl, ap, sym, ◌∙◌, subst}
use mathlib.Core.Logic.{inl}
use mathlib.Core.Bool.{true}
use mathlib.Core.List.{List, ◌++◌}
use native.Mathlib.Omega.{arith}
use lib.ListN.{length, length-append, length-map}
use Rattle.lent.specs.Octets.{octets}
use Rattle.refusal.specs.Outcome.{passed}
use Rattle.zone.specs.declared.form.Form.{Form}
use Rattle.zone.specs.declared.form.Source.TheVariants.{Seal}
use Rattle.zone.specs.Form.{may_stand}
use Rattle.zone.specs.Alphabet.{is_digit, is_letter, is_character, every}
use Rattle.zone.proofs.Every.{every_each}
use Rattle.field.specs.Date.{is_short}
use Rattle.field.specs.Letters.{letters_then_fillers, state_rule}
use Rattle.text.specs.Read.{read_text}
use Rattle.tlv.specs.Element.{tlv}
use Rattle.tlv.proofs.Encoded.{length-tlv, most_head}
use Rattle.c40.specs.Values.{is_c40}
use Rattle.c40.specs.Image.{pair, image_of}
use Rattle.c40.proofs.Images.{image_length}
use Rattle.seal_fields.specs.Day.{is_leap, days_in, is_day}
use Rattle.seal_fields.specs.Hex.{is_hex_letter, is_hex}
use Rattle.seal_fields.specs.Spaces.{filled}
use Rattle.seal_header.specs.Reference.{is_letter_or_digit}
use Rattle.seal_features.specs.Features.{text_tag, signature_tag}
use Rattle.seal.specs.Seal.{read_seal}
use Rattle.text_theorems.specs.Accepted.{Keeps}
use Rattle.text_theorems.proofs.Acceptance.{accepted_exactly}
use Rattle.seal_fields.specs.Day.{three_octets, day_octets}
use Rattle.seal_theorems.specs.Sealed.{count_of, reference_of, head_octets, joined, octets_of}
use Rattle.seal_theorems.specs.Sealed.{are_others, HeadKept, Sealed, header_in, signature_in, answer_in}
use Rattle.seal_fields.specs.Spaces.{spaced}
use Rattle.seal_theorems.specs.Around.{printed_head, around}
use Rattle.seal_fields.proofs.Spaced.{spaced_c40, filled_spaced}
use Rattle.seal_theorems.proofs.Acceptance.{sealed_answer}

-- ---- the header

printed_kept : HeadKept printed_head
unfolding printed_head octets every is_c40 is_digit is_letter filled state_rule letters_then_fillers is_letter_or_digit is_hex
    is_hex_letter
    is_day days_in is_leap is_short
printed_kept = record {
  version_kept = inl refl;
  country_length = refl;
  country_c40 = refl;
  country_kept = refl;
  reference_kept = record {
    signer_length = refl;
    signer_letters = refl;
    signer_others = refl;
    certificate_hex = refl;
    certificate_five = λ e. refl;
    certificate_most = λ e. omega arith;
  };
  issued_kept = refl;
  signed_kept = refl;
}

printed_length : length (head_octets printed_head) ≡ 18
unfolding head_octets printed_head image_of pair reference_of count_of day_octets three_octets octets
printed_length = refl

-- ---- every accepted text is carried

module _ (t g : List ℕ) (wide : length t ≡ 72) where
  spaced_length : length (spaced t) ≡ 72
  unfolding spaced
  spaced_length = length-map t _ ∙ wide

  around_length : length (octets_of (around t g)) ≤ 76 + length g
  unfolding octets_of around joined
  around_length =
      let text = tlv text_tag (image_of (spaced t)) in
      let last = tlv signature_tag g in
      let image : length (image_of (spaced t)) ≡ 48 = image_length (spaced t) ∙ rw spaced_length in
      let whole : octets_of (around t g) ≡ head_octets printed_head ++ (text ++ last) = refl in
      omega (
        arith,
        printed_length,
        ap length whole ∙ length-append (head_octets printed_head) (text ++ last),
        length-append text last,
        length-tlv text_tag (image_of (spaced t)),
        length-tlv signature_tag g,
        most_head text_tag (length (image_of (spaced t))),
        most_head signature_tag (length g),
      )

  pub every_text_sealed : (read_text Seal t).outcome ≡ passed → length g ≤ 65000
      → Sealed (around t g)
      × (read_seal (octets_of (around t g))
      ≡ record {
        outcome = passed;
        header = header_in printed_head;
        kept = (read_text Seal t).kept;
        signature = signature_in (around t g);
      })
  unfolding around answer_in are_others every
  every_text_sealed e small =
      let k = (accepted_exactly Seal t).0 e in
      let pure = every_each is_character t k.2.alphabet in
      let same = filled_spaced t pure in
      let sealed : Sealed (around t g) = record {
        shaped = record {
          size = omega (arith, around_length);
          head_kept = printed_kept;
          before_others = refl;
          behind_others = refl;
          text_length = spaced_length;
          text_c40 = spaced_c40 t pure;
        };
        text_kept = subst (λ (u : List ℕ). (f : Form) × (may_stand Seal f ≡ true) × Keeps f u) (sym same) k;
      } in (
        sealed,
        sealed_answer (around t g) sealed
            ∙ ap (λ (u : List ℕ). record {
              outcome = passed;
              header = header_in printed_head;
              kept = (read_text Seal u).kept;
              signature = signature_in (around t g);
            }) same,
      )

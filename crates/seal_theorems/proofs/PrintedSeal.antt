-- Source 002's section 8 is read: whatever 64 octets are its signature (`printed_read`).
use Prim.Native.Nat.{ℕ}
use mathlib.Core.Path.{◌≡◌, refl, ap, sym, ◌∙◌}
use mathlib.Core.List.{List}
use native.Mathlib.Omega.{arith}
use lib.ListN.{length}
use Rattle.lent.specs.Octets.{octets}
use Rattle.refusal.specs.Outcome.{passed}
use Rattle.zone.specs.declared.form.Source.TheVariants.{Seal}
use Rattle.zone.specs.Alphabet.{is_digit, is_letter, is_filler, is_character, is_foreign, every, first, first_foreign}
use Rattle.zone.specs.Form.{row, forms, part_of, parts, start, start_in, width, width_in}
use Rattle.zone.specs.Form.{first_form, is_visa, is_alone, is_visa_code, may_stand, is_of}
use Rattle.zone.specs.Form.{form_of, field, before_own, piece_of, pieces, cut, joined_cuts, covered}
use Rattle.zone.specs.Record.{trimmed, trimmed_length, padded, holding}
use Rattle.digit.specs.Check.{value, weight, sum_from, check_of, digit_of}
use Rattle.field.specs.Date.{pair_of, year_of, month_of, day_of, is_leap}
use Rattle.field.specs.Date.{is_short, days_in, year_rule, month_rule, day_rule, birth_rule}
use Rattle.field.specs.Date.{is_known, expiry_rule}
use Rattle.field.specs.Code.{is_card_letter, is_second, card_rule, kind_rule, code_rule}
use Rattle.field.specs.Letters.{letters_then_fillers, state_rule, sex_rule, name_rule, is_name_character}
use Rattle.text_digits.specs.Number.{is_long, span_of, span_rule, number_rule, number_by, checked_by}
use Rattle.text_digits.specs.Digits.{digit_at, number_digit, further_digit, is_left_out, personal_digit, digit_rows, in_order}
use Rattle.text.specs.Order.{characters, field_rows, verdict_by}
use Rattle.text.specs.Read.{Answer, record_by, own_in, in_text, answered, read_by, read_text}
use Rattle.tlv.specs.Element.{tag_octets, length_octets, tlv}
use Rattle.c40.specs.Values.{value_of}
use Rattle.c40.specs.Image.{packed, pair, image_of}
use Rattle.seal_fields.specs.Spaces.{filled}
use Rattle.seal.specs.Seal.{read_seal}
use Rattle.seal_fields.specs.Day.{day_number, three_octets, day_octets}
use Rattle.seal_theorems.specs.Sealed.{count_of, reference_of, head_octets, joined}
use Rattle.seal_theorems.specs.Sealed.{octets_of, header_in, signature_in}
use Rattle.seal_fields.specs.Spaces.{spaced}
use Rattle.seal_theorems.specs.Around.{printed_head, around}
use Rattle.seal_theorems.specs.PrintedSeal.{printed_seal, printed_text, printed_header, printed_record, printed_answer}
use Rattle.seal_theorems.proofs.TextsSealed.{every_text_sealed}

-- its text is accepted, with this record
pub printed_text_lem : read_text Seal (octets printed_text) ≡ record { outcome = passed; kept = printed_record }
unfolding printed_text printed_record octets read_text read_by answered may_stand is_visa is_alone is_visa_code is_of form_of
    verdict_by
    characters first_foreign first is_foreign is_character is_digit is_letter is_filler in_order parts part_of row forms
    first_form
    start start_in width width_in field field_rows code_rule kind_rule card_rule is_card_letter is_second state_rule
    letters_then_fillers
    number_rule span_rule sex_rule name_rule is_name_character every birth_rule expiry_rule is_known pair_of year_of month_of
    day_of is_leap
    is_short days_in year_rule month_rule day_rule span_of is_long digit_rows number_digit further_digit personal_digit
    is_left_out digit_at
    digit_of checked_by check_of sum_from value weight covered piece_of pieces cut joined_cuts record_by holding in_text number_by
    trimmed trimmed_length padded own_in before_own
printed_text_lem = refl

printed_wide : length (octets printed_text) ≡ 72
unfolding printed_text octets
printed_wide = refl

module _ (g : List ℕ) (n : length g ≡ 64) where
  -- the seal around it is the printed one
  printed_octets : octets_of (around (octets printed_text) g) ≡ printed_seal g
  unfolding octets_of around printed_head head_octets joined tlv tag_octets length_octets image_of pair packed value_of is_digit
      is_letter
      is_filler reference_of count_of day_octets three_octets day_number octets spaced printed_text printed_seal
  printed_octets = rw n

  printed_header_lem : header_in printed_head ≡ printed_header
  unfolding header_in printed_head printed_header filled octets
  printed_header_lem = refl

  -- the stretch that its signature is
  printed_signature : signature_in (around (octets printed_text) g) ≡ record { from = 70; to = 134 }
  unfolding signature_in printed_seal around
  printed_signature =
      let whole : length (octets_of (around (octets printed_text) g)) ≡ 134 = ap length printed_octets ∙ rw n in
      rw (whole, n)

  pub printed_read : read_seal (printed_seal g) ≡ printed_answer
  unfolding printed_answer
  printed_read =
      ap read_seal (sym printed_octets)
      ∙ (every_text_sealed (octets printed_text) g printed_wide (ap (λ (a : Answer). a.outcome) printed_text_lem) (omega arith)).1
      ∙ (λ i. record {
        outcome = passed;
        header = printed_header_lem i;
        kept = (printed_text_lem i).kept;
        signature = printed_signature i;
      })

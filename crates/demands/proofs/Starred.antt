-- The starred examples of document 01 hold.
use mathlib.Core.Path.{◌≡◌, refl}
use mathlib.Core.Bool.{true}
use Rattle.refusal.specs.Outcome.{passed}
use Rattle.zone.specs.declared.form.Source.{Source}
use Rattle.zone.specs.declared.form.Source.TheVariants.{Alone, GroupOne, Seal}
use Rattle.zone.specs.Alphabet.{is_digit, is_letter, is_filler, is_character, is_foreign, every, first, first_foreign}
use Rattle.zone.specs.Form.{row, forms, part_of, parts, start, start_in, width, width_in}
use Rattle.zone.specs.Form.{first_form, is_visa, is_alone, is_visa_code, may_stand, is_of}
use Rattle.zone.specs.Form.{form_of, field, before_own, piece_of}
use Rattle.zone.specs.Form.{pieces, cut, joined_cuts, covered}
use Rattle.zone.specs.Record.{trimmed, trimmed_length, padded, held_rows, holding}
use Rattle.zone.specs.Codes.{code_of}
use Rattle.digit.specs.Check.{value, weight, sum_from, check_of, digit_of}
use Rattle.field.specs.Date.{pair_of, year_of, month_of, day_of, is_leap}
use Rattle.field.specs.Date.{is_short, days_in, year_rule, month_rule, day_rule, birth_rule}
use Rattle.field.specs.Date.{is_known, expiry_rule}
use Rattle.field.specs.Code.{is_second, passport_rule, kind_rule, code_rule}
use Rattle.field.specs.Letters.{letters_then_fillers, state_rule, sex_rule, name_rule, is_name_character}
use Rattle.text_digits.specs.Number.{is_long, span_of, span_rule, number_rule, number_by, checked_by}
use Rattle.text_digits.specs.Digits.{digit_at, number_digit, further_digit, is_left_out, personal_digit, digit_rows}
use Rattle.text.specs.Order.{characters, field_rows}
use Rattle.text_digits.specs.Digits.{in_order}
use Rattle.text.specs.Order.{verdict_by}
use Rattle.text.specs.Read.{record_by, own_in, in_text, answered, read_by, read_text}
use Rattle.cells.specs.Bits.{put, gathered}
use Rattle.cells.specs.Bits as bits
use Rattle.entry.specs.Codes.{sex_code}
use Rattle.cells.specs.Cells.{put_all, put_cell, put_row, octets_of}
use Rattle.entry.specs.Entry.{said, entry_of}
use Rattle.tlv.specs.Element.{element, tag_at, tag_width, size_at, size_of, sized, ends_within}
use Rattle.lent.specs.Octets.{alike, octets}
use Rattle.demands.specs.Examples.{told, is_read, is_refused, is_passed, is_digit_at, is_right, T3, examples, all_right}

pub starred : all_right examples ≡ true
unfolding all_right examples is_right is_passed is_digit_at T3 octets check_of sum_from value weight is_digit is_letter is_filler
    birth_rule pair_of year_of month_of day_of is_leap is_short days_in year_rule month_rule day_rule row forms first_form start
    start_in
    width width_in field piece_of pieces cut joined_cuts covered record_by holding in_text span_of is_long number_by trimmed
    trimmed_length padded entry_of octets_of put_row put_cell put_all said held_rows bits.octets gathered put code_of sex_code
    alike
    told is_read is_refused element tag_at tag_width size_at size_of sized ends_within read_text read_by answered may_stand
    is_visa
    is_alone is_visa_code is_of form_of verdict_by characters first_foreign first is_foreign is_character in_order parts part_of
    field_rows code_rule kind_rule state_rule number_rule span_rule sex_rule name_rule is_name_character every expiry_rule
    digit_rows
    number_digit further_digit personal_digit is_left_out digit_at digit_of checked_by passport_rule is_second
    letters_then_fillers
    is_known own_in before_own
starred = refl

-- and by itself: T3 is accepted
pub T3-accepted : (source : Source) → (read_text source (octets T3)).outcome ≡ passed
unfolding T3 octets read_text read_by answered may_stand is_visa is_alone is_visa_code is_of form_of verdict_by characters
    first_foreign
    first is_foreign is_character is_digit is_letter is_filler in_order parts part_of row forms first_form start start_in width
    width_in
    field field_rows code_rule kind_rule passport_rule is_second state_rule letters_then_fillers number_rule span_rule sex_rule
    name_rule
    is_name_character every birth_rule expiry_rule is_known pair_of year_of month_of day_of is_leap is_short days_in year_rule
    month_rule
    day_rule span_of is_long digit_rows number_digit further_digit personal_digit is_left_out digit_at digit_of checked_by
    check_of sum_from
    value weight covered piece_of pieces cut joined_cuts
T3-accepted Alone = refl
T3-accepted GroupOne = refl
T3-accepted Seal = refl

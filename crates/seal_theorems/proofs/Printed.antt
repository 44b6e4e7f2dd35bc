-- The examples of the papers hold.
use mathlib.Core.Path.{◌≡◌, refl}
use mathlib.Core.Bool.{true}
use Rattle.lent.specs.Octets.{alike, octets}
use Rattle.zone.specs.Alphabet.{is_digit, is_letter}
use Rattle.field.specs.Date.{is_short}
use Rattle.c40.specs.Values.{is_c40, value_of, is_value, character_of}
use Rattle.c40.specs.Image.{packed, pair, image_of}
use Rattle.c40.specs.Reader.{number_of, values_of, is_three, three, is_two, two, is_one, one, before, last_pair, read_c40}
use Rattle.seal_fields.specs.Day.{is_leap, days_in, is_day, day_of, number_in}
use Rattle.seal_fields.specs.Day.{day_number, three_octets, day_octets}
use Rattle.seal_theorems.specs.Examples.{is_text, same_day, is_date, is_right, printed, all_printed}

pub printed_hold : all_printed printed ≡ true
unfolding all_printed printed is_right is_text octets alike image_of pair packed value_of is_digit is_letter read_c40 before
    last_pair
    is_three three is_two two is_one one is_c40 is_value character_of values_of number_of
    is_date same_day is_day days_in is_leap is_short day_octets three_octets day_number day_of number_in
printed_hold = refl

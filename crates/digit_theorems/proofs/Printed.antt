-- The two lists are those that are printed, of 52 pairs and of 120.
use mathlib.Core.Path.{◌≡◌, refl, ap}
use lib.ListN.{length}
use Rattle.lent.specs.Octets.{octets}
use Rattle.zone.specs.Alphabet.{is_digit, is_letter}
use Rattle.zone.specs.Codes.{code_of, character_of}
use Rattle.digit.specs.Check.{value}
use Rattle.digit_theorems.specs.Pairs.{pair_of, pair_at, is_undetected, undetected_from, undetected}
use Rattle.digit_theorems.specs.Printed.{pairs_in, pairs_of, one_place_pairs, neighbour_pairs}

pub one_place_printed : undetected 10 ≡ pairs_of one_place_pairs
unfolding undetected undetected_from is_undetected pair_at value character_of is_digit is_letter pairs_of pairs_in pair_of octets
    code_of
    one_place_pairs
one_place_printed = refl

pub neighbours_printed : undetected 5 ≡ pairs_of neighbour_pairs
unfolding undetected undetected_from is_undetected pair_at value character_of is_digit is_letter pairs_of pairs_in pair_of octets
    code_of
    neighbour_pairs
neighbours_printed = refl

pub fifty_two : length (undetected 10) ≡ 52
unfolding pairs_of pairs_in octets one_place_pairs
fifty_two = ap length one_place_printed

pub hundred_twenty : length (undetected 5) ≡ 120
unfolding pairs_of pairs_in octets neighbour_pairs
hundred_twenty = ap length neighbours_printed

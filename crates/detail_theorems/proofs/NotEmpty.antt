-- THE DEMANDS ARE NOT EMPTY: files that are accepted, with where their details stand, and beside them some that are not.
use Prim.Native.Nat.{ℕ}
use mathlib.Core.Path.{◌≡◌, refl}
use Rattle.refusal.specs.Numbers.{by}
use Rattle.lent.specs.Octets.{stands}
use Rattle.tlv.specs.declared.Stretch.{Stretch}
use Rattle.tlv.specs.Read.{Read, value, refusal, and_then, checked}
use Rattle.tlv.specs.Element.{size_of, size_at, tag_at, tag_width, ends_within, sized, element}
use Rattle.tlv.specs.Cut.{cut, end_check}
use Rattle.details.specs.Tags.{is_named, stands_for, asked_as, tag_here, is_detail, tags_in}
use Rattle.details.specs.Details.{detail_at, details_from, details, are_named, is_list, agrees, read_details, given, value_for}
use Rattle.details.specs.Details.{read_detail}
use Rattle.detail_theorems.specs.Examples.{two_names, empty_name, none_named, named_twice, one_more, one_missing, foreign_behind}

abbrev from_to : (from to : ℕ) → Read Stretch
from_to from to = value (record { from = from; to = to })

-- each as it computes
pub record Examples : Type 0 where
  pub full_name_lem : read_detail two_names 0x5F0E ≡ from_to 11 13
  pub other_names : read_detail two_names 0x5F0F ≡ from_to 13 17
  pub not_named : read_detail two_names 0x5F10 ≡ from_to 0 0
  pub template_itself : read_detail two_names 0xA0 ≡ from_to 0 0
  pub empty_there : read_detail empty_name 0x5F0E ≡ from_to 9 9
  pub none_accepted : read_detail none_named 0x5F0E ≡ from_to 0 0
  pub twice_refused : read_detail named_twice 0x5F0E ≡ refusal (by 20) 2
  pub more_refused : read_detail one_more 0x5F0E ≡ refusal (by 20) 4
  pub missing_refused : read_detail one_missing 0x5F0E ≡ refusal (by 20) 6
  pub foreign_first : read_detail foreign_behind 0x5F0E ≡ refusal (by 10) 7

pub examples_hold : Examples
unfolding two_names empty_name none_named named_twice one_more one_missing foreign_behind read_detail value_for given read_details
    agrees
    is_list are_named details details_from detail_at tags_in is_detail tag_here asked_as stands_for is_named stands size_of
    size_at tag_at
    tag_width ends_within sized element cut end_check and_then checked
examples_hold = record {
  full_name_lem = refl;
  other_names = refl;
  not_named = refl;
  template_itself = refl;
  empty_there = refl;
  none_accepted = refl;
  twice_refused = refl;
  more_refused = refl;
  missing_refused = refl;
  foreign_first = refl;
}

-- THE DEMANDS ARE NOT EMPTY: files that are accepted, with the number of their elements, and beside them some that are not.
use mathlib.Core.Path.{◌≡◌, refl}
use Rattle.refusal.specs.Numbers.{by}
use Rattle.tlv.specs.Read.{value, refusal, and_then, checked}
use Rattle.tlv.specs.Element.{size_of, size_at, tag_at, tag_width, ends_within, sized, element}
use Rattle.tlv.specs.Cut.{cut, end_check}
use Rattle.tlv.specs.Places.{stretch_by, stretch_at, places_from, places}
use Rattle.tlv.specs.Tags.{group_of, is_group}
use Rattle.tree.specs.Tag.{is_constructed, has_second, is_second, tag_here, is_tag_here}
use Rattle.tree.specs.Tree.{elements}
use Rattle.tree.specs.Reading.{here, forest_from, forest, tree_at}
use Rattle.tree.specs.Reading as tree
use Rattle.inside.specs.Templates.{value_here, directly, with_tag, count_holds, first_group, templates_check, count_check}
use Rattle.inside.specs.Inside.{group_here, as_one, file_tree, behind_file, inside, look_inside}
use Rattle.inside_theorems.specs.Examples.{face, count_of_none, eight_deep, nine_deep, own_inside}

-- each as it computes
pub record Examples : Type 0 where
  pub face_accepted : look_inside face ≡ value 4
  pub none_accepted : look_inside (count_of_none 0x63) ≡ value 3
  pub none_refused : look_inside (count_of_none 0x75) ≡ refusal (by 22) 2
  pub eight_accepted : look_inside eight_deep ≡ value 8
  pub nine_refused : look_inside nine_deep ≡ refusal (by 21) 16
  pub own_accepted : look_inside own_inside ≡ value 1

pub examples_hold : Examples
unfolding face count_of_none eight_deep nine_deep own_inside look_inside inside file_tree as_one behind_file group_here value_here
    directly with_tag count_holds first_group templates_check count_check here forest_from forest tree_at tree.inside elements
    is_constructed has_second is_second tag_here is_tag_here size_of size_at tag_at tag_width ends_within sized element cut
    end_check
    stretch_by stretch_at places_from places group_of is_group and_then checked
examples_hold = record {
  face_accepted = refl;
  none_accepted = refl;
  none_refused = refl;
  eight_accepted = refl;
  nine_refused = refl;
  own_accepted = refl;
}

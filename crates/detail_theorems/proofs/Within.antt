-- WHAT IS TOLD STANDS IN WHAT WAS LENT: a detail in the file (`detail_within`), a name in the range that it is from
-- (`name_within_range`), whatever octets these hold.
use Prim.Native.Nat.{ℕ, ◌≤◌}
use mathlib.Core.Path.{◌≡◌, refl, ap, ◌∙◌}
use mathlib.Core.Bool.{Bool, true, false, cond}
use mathlib.Core.List.{List, [], ◌∷◌}
use native.Mathlib.Omega.{arith}
use lib.Dec.{eqb}
use lib.ListN.{length, take, length-take}
use Rattle.refusal.specs.Outcome.{Outcome, passed, refused, unless}
use Rattle.zone.specs.declared.form.Source.TheVariants.{Alone}
use Rattle.text.specs.Read.{read_text}
use Rattle.text.proofs.Ends.{name_within}
use Rattle.tlv.specs.declared.Stretch.{Stretch}
use Rattle.tlv.specs.Read.{Read, value, refusal}
use Rattle.tlv.specs.Element.{element}
use Rattle.tlv.specs.Cut.{cut, end_check}
use Rattle.tlv.specs.Tags.{tag_list}
use Rattle.tlv.proofs.Joined.{first_value, checked_value, same_value, kept_value}
use Rattle.tlv.proofs.Past.{value_within}
use Rattle.details.specs.Tags.{group_tag, template_tag, full_name_tag, asked_as, tag_here, is_detail, tags_in}
use Rattle.details.specs.Details.{Detail, detail_at, details, is_list, agrees, read_details, given, value_for, read_detail}
use Rattle.details.proofs.SideBySide.{walk_cases}
use Rattle.full_name.specs.declared.From.TheVariants.{File}
use Rattle.full_name.specs.FullName.{is_empty, value_in, in_file, name_at, name_by, in_text, full_name}
use Rattle.detail_theorems.specs.Range.{Within, range_of}

within_either : (b : Bool) (v u : Stretch) (end : ℕ) → Within v end → Within u end → Within (cond b v u) end
within_either true v u end h k = h
within_either false v u end h k = k

-- ---- a detail

given_within : (s : List ℕ) (at : ℕ) (v : Stretch) → detail_at s at ≡ value v
    → Within (given (record { tag = tag_here s at; at = at; held = v })) (length s)
unfolding detail_at given
given_within s at v e =
    let k = value_within s at (tag_here s at) v (kept_value (is_detail s at) (element s at (tag_here s at)) _ at v e).1 in
    within_either (eqb (tag_here s at) template_tag) (record { from = at; to = v.to }) v (length s)
    (record { forward = omega (arith, k.0, k.1); ends = k.2 })
    (record { forward = k.1; ends = k.2 })

values_within : (asked : ℕ) (ds : List Detail) (s : List ℕ) (at : ℕ) → details s at ≡ value ds
    → Within (value_for asked ds) (length s)
unfolding value_for
values_within asked [] s at e = record { forward = omega arith; ends = omega arith }
values_within asked (x ∷ xs) s at e =
    walk_cases s at (x ∷ xs) e
    (λ h z. absurd (some_none z))
    (λ v rest h d r z.
    let first = ap first_of z in
    let more = rw (← ap rest_of z) at r in
    within_either (eqb (asked_as x.tag) asked) (given x) (value_for asked xs) (length s)
    (rw first (given_within s at v d))
    (values_within asked xs s v.to more))
  where
    some_none : x ∷ xs ≡ [] → ⊥
    some_none z = let k = ap length z in omega (arith, k)

    first_of : List Detail → Detail
    first_of [] = x
    first_of (y ∷ ys) = y

    rest_of : List Detail → List Detail
    rest_of [] = []
    rest_of (y ∷ ys) = ys

further : (v : Stretch) (a b : ℕ) → a ≤ b → Within v a → Within v b
further v a b h w = record { forward = w.forward; ends = omega (arith, h, w.ends) }

pub detail_within : (s : List ℕ) (asked : ℕ) (v : Stretch) → read_detail s asked ≡ value v → Within v (length s)
unfolding read_detail read_details
detail_within s asked v e =
    let r = first_value (read_details s) (λ ds. value (value_for asked ds)) v e in
    let ds = r.0 in
    let a = first_value (element s 0 group_tag) _ ds r.1 in
    let file = a.0 in
    let inner = take file.to s in
    let b = first_value (element inner file.from tag_list) _ ds a.2 in
    let list = b.0 in
    let c = first_value (details inner list.to) _ ds b.2 in
    let ended = checked_value (end_check s file.to) _ ds c.2 in
    let listed = checked_value (unless (is_list (cut s list)) 20 file.from) _ ds ended.1 in
    let agreed = checked_value (agrees (length s) (tags_in (cut s list)) c.0) _ ds listed.1 in
    let same = ap (value_for asked) (same_value agreed.1) ∙ same_value r.2 in
    let short = length-take file.to s in
    rw (← same) (further (value_for asked c.0) (length inner) (length s) (omega (arith, short))
    (values_within asked c.0 inner list.to c.1))

-- ---- a name

pub name_within_range : (file text : List ℕ)
    → Within (full_name file text).stretch (length (range_of (full_name file text).from file text))
unfolding full_name range_of in_file in_text name_by name_at value_in
name_within_range file text = go (is_empty (in_file file))
  where
    in_file_lem : (m : Read Stretch) → read_detail file full_name_tag ≡ m → Within (value_in m) (length file)
    in_file_lem (value v) e = detail_within file full_name_tag v e
    in_file_lem (refusal n p) e = record { forward = omega arith; ends = omega arith }

    in_text_lem : (o : Outcome) → (read_text Alone text).outcome ≡ o
        → Within (name_by o (read_text Alone text).kept.form text).stretch
        (length (range_of (name_by o (read_text Alone text).kept.form text).from file text))
    in_text_lem passed e = record { forward = omega arith; ends = name_within Alone text e }
    in_text_lem (refused n p) e = record { forward = omega arith; ends = omega arith }

    go : (b : Bool)
        → Within (cond b (in_text text) (record { from = File; stretch = in_file file })).stretch
        (length (range_of (cond b (in_text text) (record { from = File; stretch = in_file file })).from file text))
    go true = in_text_lem (read_text Alone text).outcome refl
    go false = in_file_lem (read_detail file full_name_tag) refl

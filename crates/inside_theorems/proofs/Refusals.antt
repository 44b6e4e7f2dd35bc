-- DEMAND 1: every refusal is by 10, 21 or 22, at a place no further than the file's end (`look_told`).
use Prim.Native.Nat.{ℕ, zero, suc, ◌≤◌}
use mathlib.Core.Path.{◌≡◌, refl, ap}
use mathlib.Core.Bool.{Bool, true, false, cond, not, ◌&&◌}
use mathlib.Core.List.{List}
use native.Mathlib.Omega.{arith}
use lib.Dec.{eqb, leb}
use lib.ListN.{length, take, get_or}
use lib.Seq.{length-take-le}
use Rattle.lent.proofs.Bools.{either_way}
use Rattle.refusal.specs.Numbers.{Why, by}
use Rattle.refusal.specs.Calls.{of_inside, tells}
use Rattle.refusal.proofs.Each.{Each, each_passed, each_unless, each_else}
use Rattle.tlv.specs.declared.Stretch.{Stretch}
use Rattle.tlv.specs.Read.{Read, value, refusal, and_then, outcome_in}
use Rattle.tlv.specs.Element.{element}
use Rattle.tlv.specs.Cut.{cut, end_check}
use Rattle.tlv.specs.Tags.{is_group}
use Rattle.tlv.proofs.Past.{value_within}
use Rattle.tlv.proofs.Joined.{first_value, same_value, kept_value}
use Rattle.tlv.proofs.Each.{EachRead, each_value, each_refusal, each_then, each_checked, each_element, each_end}
use Rattle.tree.specs.Tag.{is_constructed, tag_here, is_tag_here}
use Rattle.tree.specs.Tree.{one, holds, Forest, empty, more, elements}
use Rattle.tree.specs.Reading.{Found, here, forest_from, forest, inside, tree_at}
use Rattle.tree.proofs.Heads.{here_within}
use Rattle.tree.proofs.Bounds.{Bound, tree_bound}
use Rattle.inside.specs.Templates.{template_group, value_here, count_holds, first_group, templates_check, count_check}
use Rattle.inside.specs.Inside.{group_here, as_one, file_tree, behind_file, look_inside}
use Rattle.inside.specs.Inside as file
use Rattle.inside.proofs.Tallies.{first_within}

-- what a refusal has: one of the call's numbers, and a place no further than an end
abbrev pub ToldTo : (end : ℕ) → Why → ℕ → Type 0
ToldTo end why p = (tells of_inside why ≡ true) × (p ≤ end)

further : {A : Type 0} (a b : ℕ) (m : Read A) → a ≤ b → EachRead (ToldTo a) m → EachRead (ToldTo b) m
further a b m h each why p e = let k = each why p e in (k.0, omega (arith, k.1))

-- ---- elements

here_told : (s : List ℕ) (at : ℕ) → at ≤ length s → EachRead (ToldTo (length s)) (here s at)
unfolding here
here_told s at h =
    either_way (EachRead (ToldTo (length s))) (is_tag_here s at) _ _
    (each_element (ToldTo (length s)) s at (tag_here s at) (refl, h))
    (each_refusal (ToldTo (length s)) Stretch (by 10) at (refl, h))

module _ (elementAt : List ℕ → ℕ → Read Found)
    (told : (s : List ℕ) (at : ℕ) → at ≤ length s → EachRead (ToldTo (length s)) (elementAt s at))
    (bound : (s : List ℕ) (at : ℕ) (t : Found) → elementAt s at ≡ value t → Bound s at t) where
  forest_told : (k : ℕ) (s : List ℕ) (at : ℕ) → at ≤ length s → EachRead (ToldTo (length s)) (forest_from elementAt k s at)
  unfolding forest_from
  forest_told zero s at h = each_refusal (ToldTo (length s)) Forest (by 10) at (refl, h)
  forest_told (suc k) s at h =
      either_way (EachRead (ToldTo (length s))) (leb (length s) at) _ _
      (each_value (ToldTo (length s)) empty)
      (each_then (ToldTo (length s)) (elementAt s at) _ (told s at h) (λ t e.
      each_then (ToldTo (length s)) (forest_from elementAt k s t.to) _
      (forest_told k s t.to (bound s at t e).ends_within_lem)
      (λ f q. each_value (ToldTo (length s)) (more t.tree f))))

  inside_told : (s : List ℕ) (at : ℕ) (v : Stretch) → here s at ≡ value v
      → EachRead (ToldTo (length s)) (inside elementAt s at v)
  unfolding inside forest
  inside_told s at v e =
      let w = here_within s at v e in
      let held = take v.to s in
      let long : length held ≡ v.to = length-take-le v.to s w.2 in
      either_way (EachRead (ToldTo (length s))) (is_constructed (get_or s at 0)) _ _
      (each_then (ToldTo (length s)) (forest elementAt held v.from) _
      (further (length held) (length s) (forest elementAt held v.from) (omega (arith, long, w.2))
      (forest_told (suc (length held)) held v.from (omega (arith, long, w.1))))
      (λ f q. each_value (ToldTo (length s)) (record { tree = holds (tag_here s at) f; to = v.to })))
      (each_value (ToldTo (length s)) (record { tree = one (tag_here s at) (cut s v); to = v.to }))

tree_told : (d : ℕ) (s : List ℕ) (at : ℕ) → at ≤ length s → EachRead (ToldTo (length s)) (tree_at d s at)
unfolding tree_at
tree_told zero s at h =
    each_then (ToldTo (length s)) (here s at) _ (here_told s at h)
    (λ v e. each_refusal (ToldTo (length s)) Found (by 21) at (refl, h))
tree_told (suc d) s at h =
    each_then (ToldTo (length s)) (here s at) (inside (tree_at d) s at) (here_told s at h)
    (inside_told (tree_at d) (tree_told d) (tree_bound d) s at)

-- ---- a file

module _ (s : List ℕ) where
  abbrev P : Why → ℕ → Type 0
  P = ToldTo (length s)

  templates_told : (group at : ℕ) → Each P (templates_check group s at)
  unfolding templates_check first_group
  templates_told group at =
      let first = first_group s at in
      let held = take (value_here s first).to s in
      each_unless P (not (eqb first 0) && count_holds group held (value_here s first).from) 22 first
      (refl, first_within s template_group at)

  count_told : (group at : ℕ) → Each P (count_check group s at)
  unfolding count_check
  count_told group at = either_way (Each P) (leb 2 group && leb group 4) _ _ (templates_told group at) (each_passed P)

  file_told : EachRead P (file_tree s)
  unfolding file_tree as_one
  file_told =
      either_way (EachRead P) (is_group (get_or s 0 0)) _ _
      (either_way (EachRead P) (eqb (group_here s) 13) _ _
      (each_then P (element s 0 (get_or s 0 0)) _ (each_element P s 0 (get_or s 0 0) (refl, omega arith))
      (λ v e. each_value P (record { tree = one (get_or s 0 0) (cut s v); to = v.to })))
      (tree_told 8 s 0 (omega arith)))
      (each_refusal P Found (by 10) 0 (refl, omega arith))

  -- where the file's tree ends, within what was lent
  file_within : (t : Found) → file_tree s ≡ value t → t.to ≤ length s
  unfolding file_tree as_one
  file_within t e =
      go (eqb (group_here s) 13) (kept_value (is_group (get_or s 0 0))
      (cond (eqb (group_here s) 13) (as_one s) (tree_at 8 s 0)) _ 0 t e).1
    where
      go : (b : Bool)
          → cond b (and_then (element s 0 (get_or s 0 0)) (λ (v : Stretch).
          value (record { tree = one (get_or s 0 0) (cut s v); to = v.to }))) (tree_at 8 s 0) ≡ value t
          → t.to ≤ length s
      go true q =
          let a = first_value (element s 0 (get_or s 0 0))
          (λ (v : Stretch). value (record { tree = one (get_or s 0 0) (cut s v); to = v.to })) t q in
          rw (← same_value a.2) (value_within s 0 (get_or s 0 0) a.0 a.1).2
      go false q = (tree_bound 8 s 0 t q).ends_within_lem

  look_each : EachRead P (look_inside s)
  unfolding look_inside file.inside behind_file
  look_each =
      each_then P (file.inside s) _
      (each_then P (file_tree s) _ file_told (λ t e.
      each_checked P _ (value t.tree)
      (each_else P (end_check s t.to) _ (each_end P s t.to (refl, file_within t e))
      (count_told (group_here s) (value_here s 0).from))
      (each_value P t.tree)))
      (λ t e. each_value P (elements t))

  pub look_told : (why : Why) (p : ℕ) → look_inside s ≡ refusal why p → (tells of_inside why ≡ true) × (p ≤ length s)
  unfolding outcome_in
  look_told why p e = look_each why p (ap outcome_in e)

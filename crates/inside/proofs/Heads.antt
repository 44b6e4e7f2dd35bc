-- A file by its own head: the tags of groups have one octet and are constructed, so that a file is an element as any other.
use Prim.Native.Nat.{ℕ, suc, ◌-◌, ◌/◌, ◌%◌, ◌≤◌, ◌<◌}
use mathlib.Core.Path.{◌≡◌, refl, sym, ◌∙◌}
use mathlib.Core.Bool.{Bool, true, false, cond, ◌&&◌}
use mathlib.Core.List.{List}
use native.Mathlib.Omega.{arith}
use borrow.Author.Tests.{eq-eqb, ne_eqb, eqb-true, leb-true, leb-false}
use lib.Dec.{eqb, leb}
use lib.ListN.{length, take, get_or}
use Rattle.lent.proofs.Bools.{and_both}
use Rattle.refusal.specs.Numbers.{Why, by}
use Rattle.refusal.specs.Outcome.{Outcome, passed, refused, or_else}
use Rattle.tlv.specs.declared.Stretch.{Stretch}
use Rattle.tlv.specs.Read.{Read, value, refusal, and_then, checked}
use Rattle.tlv.specs.Element.{behind_tag, element}
use Rattle.tlv.specs.Cut.{cut, end_check}
use Rattle.tlv.specs.Tags.{group_of, is_group}
use Rattle.tlv.proofs.Joined.{same_value}
use Rattle.tlv.proofs.Past.{value_within}
use Rattle.tlv.proofs.Whatever.{behind_one}
use Rattle.tlv.proofs.Onward.{stretch_read}
use Rattle.tree.specs.Tag.{is_constructed, tag_here}
use Rattle.tree.specs.Tree.{Tree, one, holds, Forest, elements, all_elements}
use Rattle.tree.specs.Reading.{Found, here, forest, inside, tree_at}
use Rattle.tree.specs.Inner.Passed.{counting}
use Rattle.tree.proofs.Heads.{here_one}
use Rattle.tree.proofs.Walking.{counting_bound, counting_done}
use Rattle.inside.specs.Templates.{value_here, count_check}
use Rattle.inside.specs.Inside.{group_here, as_one, file_tree, behind_file, look_inside}
use Rattle.inside.specs.Inside as file
use Rattle.inside.specs.Inner.Behind.{elements_in, behind_all, behind_head}
use Rattle.inside.proofs.Tags.{tag_one}

-- ---- the tags of groups

pub group_tag_lem : (tag : ℕ) → (group_of tag ≡ 0 → ⊥) → (0x61 ≤ tag) × (tag ≤ 0x76)
unfolding group_of
group_tag_lem tag h =
    go (eqb tag 0x61) (eqb tag 0x75) (eqb tag 0x63) (eqb tag 0x76) (eqb tag 0x65) (leb 0x67 tag && leb tag 0x70)
    refl refl refl refl refl refl h
  where
    go : (a b c d e f : Bool) → eqb tag 0x61 ≡ a → eqb tag 0x75 ≡ b → eqb tag 0x63 ≡ c → eqb tag 0x76 ≡ d → eqb tag 0x65 ≡ e
        → leb 0x67 tag && leb tag 0x70 ≡ f
        → (cond a 1 (cond b 2 (cond c 3 (cond d 4 (cond e 5 (cond f (tag - 0x60) 0))))) ≡ 0 → ⊥)
        → (0x61 ≤ tag) × (tag ≤ 0x76)
    go true b c d e f p q r s t u k = let x = eqb-true tag 0x61 p in (omega arith, omega arith)
    go false true c d e f p q r s t u k = let x = eqb-true tag 0x75 q in (omega arith, omega arith)
    go false false true d e f p q r s t u k = let x = eqb-true tag 0x63 r in (omega arith, omega arith)
    go false false false true e f p q r s t u k = let x = eqb-true tag 0x76 s in (omega arith, omega arith)
    go false false false false true f p q r s t u k = let x = eqb-true tag 0x65 t in (omega arith, omega arith)
    go false false false false false true p q r s t u k =
        let both = and_both (leb 0x67 tag) (leb tag 0x70) u in
        let low = leb-true 0x67 tag both.0 in
        let high = leb-true tag 0x70 both.1 in
        (omega arith, omega arith)
    go false false false false false false p q r s t u k = absurd (k refl)

-- one octet, and constructed
pub group_one_lem : (tag : ℕ) → (group_of tag ≡ 0 → ⊥) → tag % 32 ≡ 31 → ⊥
group_one_lem tag h e = let k = group_tag_lem tag h in omega (arith, k.0, k.1)

pub group_constructed : (tag : ℕ) → (group_of tag ≡ 0 → ⊥) → is_constructed tag ≡ true
unfolding is_constructed
group_constructed tag h = let k = group_tag_lem tag h in eq-eqb (tag / 32 % 2) 1 (omega (arith, k.0, k.1))

-- ---- a file by its head

checked_then : {A B : Type 0} (o : Outcome) (a : A) (go : A → B)
    → and_then (checked o (value a)) (λ (x : A). value (go x)) ≡ checked o (value (go a))
unfolding and_then checked
checked_then passed a go = refl
checked_then (refused n p) a go = refl

module _ (s : List ℕ) where
  pub no_group : group_of (get_or s 0 0) ≡ 0 → look_inside s ≡ refusal (by 10) 0
  unfolding look_inside file.inside file_tree is_group and_then
  no_group e = rw e

  -- an element with a group's tag
  module _ (group : group_of (get_or s 0 0) ≡ 0 → ⊥) where
    abbrev tag : ℕ
    tag = get_or s 0 0

    is_group_lem : is_group tag ≡ true
    unfolding is_group
    is_group_lem = rw (ne_eqb (group_of tag) 0 group)

    small : tag < 256
    small = let k = group_tag_lem tag group in omega (arith, k.1)

    pub group_element : behind_tag s 0 1 ≡ element s 0 tag
    group_element = behind_one s 0 small

    pub group_here_lem : behind_tag s 0 1 ≡ here s 0
    group_here_lem = here_one s 0 (group_one_lem tag group) small

    pub group_refused : (n : Why) (p : ℕ) → behind_tag s 0 1 ≡ refusal n p → look_inside s ≡ refusal n p
    unfolding look_inside file.inside file_tree as_one and_then tree_at
    group_refused n p e = rw is_group_lem (go (eqb (group_here s) 13))
      where
        go : (b : Bool)
            → and_then (and_then (cond b (and_then (element s 0 tag) (λ (v : Stretch).
            value (record { tree = one tag (cut s v); to = v.to }))) (and_then (here s 0) (inside (tree_at 7) s 0)))
            (λ (t : Found). checked (behind_file s t.to) (value t.tree))) (λ (t : Tree). value (elements t))
            ≡ refusal n p
        go true = rw (sym group_element ∙ e)
        go false = rw (sym group_here_lem ∙ e)

    module _ (v : Stretch) (e : behind_tag s 0 1 ≡ value v) where
      pub group_within : 0 < v.from
      group_within = (value_within s 0 tag v (sym group_element ∙ e)).0

      value_there : value_here s 0 ≡ v
      unfolding value_here
      value_there = rw (tag_one s 0 (group_one_lem tag group)) (stretch_read s 0 tag v (sym group_element ∙ e))

      behind_same : behind_file s v.to ≡ or_else (end_check s v.to) (count_check (group_here s) s v.from)
      unfolding behind_file
      behind_same = rw value_there

      -- the number of elements, once the file's tree is known
      after : (t : Tree)
          → and_then (checked (behind_file s v.to) (value t)) (λ (x : Tree). value (elements x))
          ≡ behind_all (group_here s) s v (elements t)
      unfolding behind_all
      after t = checked_then (behind_file s v.to) t elements ∙ rw behind_same

      one_read : as_one s ≡ value (record { tree = one tag (cut s v); to = v.to })
      unfolding as_one and_then
      one_read = rw (sym group_element ∙ e)

      tree_read : tree_at 8 s 0
          ≡ and_then (forest (tree_at 7) (take v.to s) v.from) (λ (f : Forest).
          value (record { tree = holds (tag_here s 0) f; to = v.to }))
      unfolding tree_at inside and_then
      tree_read = rw (sym group_here_lem ∙ e, group_constructed tag group)

      pub group_head : look_inside s ≡ behind_head (group_here s) s v
      unfolding look_inside file.inside file_tree behind_head elements_in counting elements and_then
      group_head = rw is_group_lem (go (eqb (group_here s) 13))
        where
          held : (m : Read Forest)
              → and_then (and_then (and_then m (λ (f : Forest). value (record { tree = holds (tag_here s 0) f; to = v.to })))
              (λ (t : Found). checked (behind_file s t.to) (value t.tree))) (λ (t : Tree). value (elements t))
              ≡ and_then (and_then (and_then m (λ (f : Forest). value (all_elements f))) (λ (n : ℕ). value (suc n)))
              (behind_all (group_here s) s v)
          held (value f) = after (holds (tag_here s 0) f)
          held (refusal n p) = refl

          go : (b : Bool)
              → and_then (and_then (cond b (as_one s) (tree_at 8 s 0))
              (λ (t : Found). checked (behind_file s t.to) (value t.tree))) (λ (t : Tree). value (elements t))
              ≡ and_then (cond b (value 1)
              (and_then (and_then (forest (tree_at 7) (take v.to s) v.from) (λ (f : Forest). value (all_elements f)))
              (λ (n : ℕ). value (suc n)))) (behind_all (group_here s) s v)
          go true = rw one_read (after (one tag (cut s v)))
          go false = rw tree_read (held (forest (tree_at 7) (take v.to s) v.from))

-- there are no more elements than octets, wherever they are looked for
pub counted_within : (d : ℕ) (s : List ℕ) (at n : ℕ) → counting d s at ≡ value n → n ≤ length s
counted_within d s at n e = go (leb at (length s)) refl
  where
    go : (b : Bool) → leb at (length s) ≡ b → n ≤ length s
    go true q = omega (arith, counting_bound d s at n (leb-true at (length s) q) e)
    go false q =
        let past = leb-false at (length s) q in
        let none : n ≡ 0 = same_value (sym e ∙ counting_done d s at (omega arith)) in
        omega arith

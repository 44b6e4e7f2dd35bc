-- The count of templates is right exactly where the tree's is (`count_right`, `right_count`).
use Prim.Native.Nat.{ℕ, ◌+◌, ◌≤◌}
use mathlib.Core.Path.{◌≡◌, refl, ap, sym, ◌∙◌}
use mathlib.Core.Logic.{◌⊎◌, inl, inr}
use mathlib.Core.Bool.{Bool, true, false, not, ◌&&◌, ◌||◌, false≢true}
use mathlib.Core.List.{List, [], ◌∷◌}
use native.Mathlib.Omega.{arith}
use borrow.Author.Tests.{eqb-true, eq-eqb, ne_eqb, leb-false}
use lib.Dec.{eqb, leb}
use lib.ListN.{length, take, get_or}
use Rattle.lent.proofs.Bools.{and_both}
use Rattle.refusal.specs.Outcome.{passed}
use Rattle.refusal.proofs.Outcomes.{unless_kept, kept_unless}
use Rattle.tlv.specs.Read.{value}
use Rattle.tree.specs.Tag.{is_constructed, first_octet}
use Rattle.tree.specs.Tree.{Tree, one, holds, Forest, empty, more, Formed}
use Rattle.tree.specs.Reading.{forest, tree_at}
use Rattle.inside.specs.Templates.{template_group, template, value_here, directly}
use Rattle.inside.specs.Templates.{with_tag, count_holds, first_group, templates_check}
use Rattle.inside_theorems.specs.Whole.{tag_of, times_in, from_first, CountRight}
use Rattle.inside_theorems.proofs.TreeRead.{Small, small_take, tree_reads}
use Rattle.inside_theorems.proofs.Views.{Held, tree_held, never_empty, same_first}
use Rattle.inside_theorems.proofs.Counts.{FirstThere, first_places, count_places}
use Rattle.inside_theorems.proofs.Opening.{opens_count, count_opens}

-- what the four tests of a count say
record Tests (group : ℕ) (s : List ℕ) (at : ℕ) : Type 0 where
  two : get_or s at 0 ≡ 0x02
  single : get_or s (at + 1) 0 ≡ 0x01
  as_many : get_or s (at + 2) 0 ≡ length (with_tag s template (directly s at))
  not_none : group ≡ 2 → get_or s (at + 2) 0 ≡ 0 → ⊥

tests : (group : ℕ) (s : List ℕ) (at : ℕ) → count_holds group s at ≡ true → Tests group s at
unfolding count_holds
tests group s at e =
    let n = get_or s (at + 2) 0 in
    let a = and_both (eqb (get_or s at 0) 0x02) _ e in
    let b = and_both (eqb (get_or s (at + 1) 0) 0x01) _ a.1 in
    let c = and_both (eqb n (length (with_tag s template (directly s at)))) _ b.1 in
    record {
      two = eqb-true (get_or s at 0) 0x02 a.0;
      single = eqb-true (get_or s (at + 1) 0) 0x01 b.0;
      as_many = eqb-true n _ c.0;
      not_none = λ same zero. go same zero c.1;
    }
  where
    go : group ≡ 2 → get_or s (at + 2) 0 ≡ 0 → leb 3 group || not (eqb (get_or s (at + 2) 0) 0) ≡ true → ⊥
    go same zero h = false≢true (rw (same, zero) at h)

tested : (group : ℕ) (s : List ℕ) (at : ℕ) → 2 ≤ group → Tests group s at → count_holds group s at ≡ true
unfolding count_holds
tested group s at low t =
    let n = get_or s (at + 2) 0 in
    rw (
      eq-eqb (get_or s at 0) 0x02 t.two,
      eq-eqb (get_or s (at + 1) 0) 0x01 t.single,
      eq-eqb n (length (with_tag s template (directly s at))) t.as_many,
    )
    (go (leb 3 group) refl)
  where
    go : (b : Bool) → leb 3 group ≡ b → b || not (eqb (get_or s (at + 2) 0) 0) ≡ true
    go true e = refl
    go false e =
        let high = leb-false 3 group e in
        let same : group ≡ 2 = omega arith in
        rw (ne_eqb (get_or s (at + 2) 0) 0 (t.not_none same))

-- a file's elements from a place on, read to a depth
module _ (d : ℕ) (s : List ℕ) (small : Small s) (at : ℕ) (some : 1 ≤ at) (f : Forest) (e : forest (tree_at d) s at ≡ value f)
    (group : ℕ) where
  abbrev first : ℕ
  first = get_or (with_tag s template_group (directly s at)) 0 0

  abbrev held : List ℕ
  held = take (value_here s first).to s

  abbrev from : ℕ
  from = (value_here s first).from

  held_small : Small held
  held_small = small_take s small (value_here s first).to

  -- ---- a count that is right in the octets is right in the tree

  -- 7F61 is constructed, so that it holds others
  group_holds : (t : Tree) (to : ℕ) → tree_at d s first ≡ value (record { tree = t; to = to }) → tag_of t ≡ template_group
      → (g : Forest) × (t ≡ holds template_group g)
  unfolding Formed tag_of is_constructed first_octet
  group_holds (one tag c) to q same =
      let r = tree_reads d s small first (record { tree = one tag c; to = to }) q in
      absurd (false≢true (sym (rw same at r.formed.1)))
  group_holds (holds tag g) to q same = (g, rw same)

  right_there : (g : Forest) (rest : Forest) → from_first template_group f ≡ more (holds template_group g) rest
      → Held d s first g → Tests group held from → CountRight group f
  unfolding times_in tag_of
  right_there g rest there h t =
      let n = get_or held (from + 2) 0 in
      let o = opens_count h.below held held_small from t.two t.single g h.list_read in
      let many = count_places h.below held template g from h.list_read in
      record {
        n = n;
        rest = o.0;
        behind = rest;
        opens = there ∙ ap (λ (x : Forest). more (holds template_group x) rest) o.1;
        exactly = sym (t.as_many ∙ many ∙ ap (times_in template) o.1);
        some = t.not_none;
      }

  pub count_right : templates_check group s at ≡ passed → CountRight group f
  unfolding templates_check first_group
  count_right q =
      let both = and_both (not (eqb first 0)) _ (unless_kept _ 22 first q) in
      go both.0 (tests group held from both.1) (first_places d s template_group f at e)
    where
      go : not (eqb first 0) ≡ true → Tests group held from
          → ((from_first template_group f ≡ empty) × (with_tag s template_group (directly s at) ≡ []))
          ⊎ FirstThere d s template_group at f
          → CountRight group f
      go p t (inl h) = absurd (false≢true (rw h.1 at p))
      go p t (inr r) =
          let k = group_holds r.tree r.to r.its_read r.its_tag in
          let there = r.from_first_lem ∙ ap (λ (x : Tree). more x r.rest) k.1 in
          let read = r.its_read ∙ ap (λ (x : Tree). value (record { tree = x; to = r.to })) k.1 in
          right_there k.0 r.rest there (tree_held s first d template_group k.0 r.to read) t

  -- ---- and back

  tests_there : (c : CountRight group f) → Held d s first (more (one 0x02 (c.n ∷ [])) c.rest) → Tests group held from
  unfolding times_in tag_of
  tests_there c h =
      let o = count_opens h.below held held_small from c.n c.rest h.list_read in
      let many = count_places h.below held template (more (one 0x02 (c.n ∷ [])) c.rest) from h.list_read in
      record {
        two = o.0;
        single = o.1;
        as_many = o.2 ∙ sym c.exactly ∙ sym many;
        not_none = λ same zero. c.some same (sym o.2 ∙ zero);
      }

  pub right_count : 2 ≤ group → CountRight group f → templates_check group s at ≡ passed
  unfolding templates_check first_group
  right_count low c = kept_unless _ 22 first (go (first_places d s template_group f at e))
    where
      go : ((from_first template_group f ≡ empty) × (with_tag s template_group (directly s at) ≡ []))
          ⊎ FirstThere d s template_group at f
          → not (eqb first 0) && count_holds group held from ≡ true
      go (inl h) = absurd (never_empty (sym h.0 ∙ c.opens))
      go (inr r) =
          let same = same_first (sym r.from_first_lem ∙ c.opens) in
          let read = r.its_read ∙ ap (λ (x : Tree). value (record { tree = x; to = r.to })) same in
          let h = tree_held s first d template_group (more (one 0x02 (c.n ∷ [])) c.rest) r.to read in
          let behind = r.not_before in
          rw (ne_eqb first 0 (λ z. omega (arith, behind, z, some)), tested group held from low (tests_there c h))

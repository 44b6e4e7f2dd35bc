-- A list of elements opens with a count exactly where its octets are 02 01 n.
use Prim.Native.Nat.{ℕ, ◌+◌, ◌/◌, ◌%◌, ◌≤◌}
use mathlib.Core.Path.{◌≡◌, ap, ◌∙◌}
use mathlib.Core.Bool.{Bool, true, false, cond, false≢true}
use mathlib.Core.List.{List, [], ◌∷◌, ◌++◌, append_assoc}
use native.Mathlib.Omega.{arith}
use lib.Dec.{leb}
use lib.ListN.{length, drop, get_or, get_or-eq_default}
use Rattle.tlv.specs.Read.{value}
use Rattle.tlv.specs.Element.{tag_octets, length_octets, tlv, tag_width}
use Rattle.tlv.proofs.Encoded.{first_there, back, head_octets}
use Rattle.tlv.proofs.Standing.{one_octet}
use Rattle.tree.specs.Tag.{is_constructed, tag_here, first_octet}
use Rattle.tree.specs.Tree.{Tree, one, holds, Forest, empty, more, tree_octets, Formed}
use Rattle.tree.specs.Reading.{forest, tree_at}
use Rattle.inside.proofs.Tags.{tag_one}
use Rattle.inside_theorems.specs.Whole.{tag_of}
use Rattle.inside_theorems.proofs.TreeRead.{Small, Reads, tree_reads}
use Rattle.inside_theorems.proofs.Views.{tree_head, read_empty, more_there}

-- a length that is told by 01
one_told : (s : List ℕ) (at n : ℕ) (r : List ℕ) → get_or s at 0 ≡ 1 → drop at s ≡ length_octets n ++ r → n ≡ 1
unfolding length_octets
one_told s at n r h e = go (leb n 0x7F) (leb n 255) e
  where
    go : (a b : Bool) → drop at s ≡ cond a (n ∷ []) (cond b (0x81 ∷ n ∷ []) (0x82 ∷ (n / 256) ∷ (n % 256) ∷ [])) ++ r → n ≡ 1
    go true b f = let k = (first_there s at n r f).0 in omega arith
    go false true f = let k = (first_there s at 0x81 (n ∷ r) f).0 in absurd (omega arith)
    go false false f = let k = (first_there s at 0x82 ((n / 256) ∷ (n % 256) ∷ r) f).0 in absurd (omega arith)

module _ (d : ℕ) (s : List ℕ) (small : Small s) (at : ℕ) where
  -- ---- from the octets

  module _ (two : get_or s at 0 ≡ 0x02) (single : get_or s (at + 1) 0 ≡ 0x01) where
    tag_two : tag_here s at ≡ 0x02
    tag_two = tag_one s at (λ z. omega (arith, two, z)) ∙ two

    -- a value of one octet
    content : (c rest : List ℕ) → length c ≤ 65535 → drop at s ≡ tlv 0x02 c ++ rest → c ≡ get_or s (at + 2) 0 ∷ []
    unfolding tlv tag_octets head_octets tag_width length_octets
    content c rest most e =
        let parts = e ∙ ap (λ (l : List ℕ). 0x02 ∷ l) (append_assoc (length_octets (length c)) c rest) in
        let behind = (first_there s at 0x02 (length_octets (length c) ++ (c ++ rest)) parts).1 in
        let long = one_told s (at + 1) (length c) (c ++ rest) single behind in
        let b = back s at 0x02 c rest most e in
        let from : b.0.from ≡ at + 2 = b.2.from_place ∙ rw long in
        one_octet s at 0x02 c rest b.0 b.2 long ∙ rw from

    first_one : (t : Tree) (to : ℕ) → tree_at d s at ≡ value (record { tree = t; to = to })
        → t ≡ one 0x02 (get_or s (at + 2) 0 ∷ [])
    unfolding Formed tag_of tree_octets is_constructed first_octet
    first_one t to e = go t e (tree_reads d s small at (record { tree = t; to = to }) e)
        ((tree_head s at d (record { tree = t; to = to }) e).same_tag ∙ tag_two)
      where
        go : (u : Tree) → tree_at d s at ≡ value (record { tree = u; to = to }) → Reads d s at (record { tree = u; to = to })
            → tag_of u ≡ 0x02 → u ≡ one 0x02 (get_or s (at + 2) 0 ∷ [])
        go (one tag c) f r same = rw same (ap (one 0x02) (content c (drop to s) r.formed.2 (rw same at r.octets)))
        go (holds tag g) f r same = absurd (false≢true (rw same at r.formed.1))

    pub opens_count : (f : Forest) → forest (tree_at d) s at ≡ value f
        → (rest : Forest) × (f ≡ more (one 0x02 (get_or s (at + 2) 0 ∷ [])) rest)
    opens_count empty e =
        let past = read_empty d s at e in
        let none : get_or s at 0 ≡ 0 = get_or-eq_default s 0 past in
        absurd (omega (arith, none, two))
    opens_count (more t g) e =
        let m = more_there d s at t g e in
        (g, ap (λ (x : Tree). more x g) (first_one t m.to m.first_read))

  -- ---- and back

  pub count_opens : (n : ℕ) (rest : Forest) → forest (tree_at d) s at ≡ value (more (one 0x02 (n ∷ [])) rest)
      → (get_or s at 0 ≡ 0x02) × (get_or s (at + 1) 0 ≡ 0x01) × (get_or s (at + 2) 0 ≡ n)
  unfolding tree_octets tlv tag_octets length_octets
  count_opens n rest e =
      let m = more_there d s at (one 0x02 (n ∷ [])) rest e in
      let r = tree_reads d s small at (record { tree = one 0x02 (n ∷ []); to = m.to }) m.first_read in
      let a = first_there s at 0x02 (0x01 ∷ n ∷ drop m.to s) r.octets in
      let b = first_there s (at + 1) 0x01 (n ∷ drop m.to s) a.1 in
      let onward : at + 1 + 1 ≡ at + 2 = omega arith in
      let c = first_there s (at + 1 + 1) n (drop m.to s) b.1 in
      (a.0, b.0, rw onward at c.0)

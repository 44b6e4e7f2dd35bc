-- What stands where a detail is told to stand: its element's value, A0 whole (`detail_there`); nothing where the list does not
-- name it (`detail_none`). No other elements have a file's octets (`no_other_elements`).
use Prim.Native.Nat.{ℕ, ◌+◌, ◌-◌, ◌≤◌, ◌<◌}
use mathlib.Core.Path.{◌≡◌, refl, ap, sym, ◌∙◌}
use mathlib.Core.Bool.{Bool, true, false, cond, not, ◌&&◌}
use mathlib.Core.List.{List, [], ◌∷◌, ◌++◌, append_assoc}
use native.Mathlib.Nat.{add-zero}
use native.Mathlib.Omega.{arith}
use borrow.Author.Tests.{eq-eqb, ne_eqb, eqb-false}
use lib.Dec.{eqb}
use lib.ListN.{length, take, drop, length-append}
use lib.Seq.{take_at, drop_at, drop-drop}
use Rattle.lent.specs.Octets.{stands}
use Rattle.lent.proofs.Bools.{and_both, or_neither, not_true}
use Rattle.tlv.specs.Element.{tag_octets, length_octets, tlv}
use Rattle.tlv.specs.Cut.{cut}
use Rattle.tlv.specs.Tags.{tag_list}
use Rattle.tlv.proofs.Encoded.{prefix_free, length-tlv}
use Rattle.details.specs.Tags.{group_tag, other_names_tag, is_named, stands_for, tags_in}
use Rattle.details.specs.Details.{are_named}
use Rattle.detail_theorems.specs.Named.{Named, tags_of, list_octets, element_octets, elements_octets, group_content, group_octets}
use Rattle.detail_theorems.specs.Named.{Right, own_stretch, stretch_from, elements_at, stretch_of, given_octets}
use Rattle.detail_theorems.proofs.ListOctets.{named_parts, list_back, first_same, rest_same, some_none}
use Rattle.detail_theorems.proofs.ElementsBack.{held_from, own_most, element_back}
use Rattle.detail_theorems.proofs.Acceptance.{elements_here, elements_most}

elements_append : (a b : List Named) → elements_octets (a ++ b) ≡ elements_octets a ++ elements_octets b
unfolding elements_octets
elements_append [] b = refl
elements_append (n ∷ a) b =
    ap (λ (l : List ℕ). element_octets n ++ l) (elements_append a b)
    ∙ sym (append_assoc (element_octets n) (elements_octets a) (elements_octets b))

module _ (n : Named) (b : List Named) where
  -- of tags as said each is, and none that was named before is named again
  named_at : (a : List Named) (named : List ℕ) → are_named named (tags_of (a ++ (n ∷ b))) ≡ true → is_named n.tag ≡ true
  named_at [] named h = (named_parts n.tag named (tags_of b) h).0
  named_at (x ∷ a) named h = named_at a (x.tag ∷ named) (named_parts x.tag named (tags_of (a ++ (n ∷ b))) h).1

  named_once : (a : List Named) (named : List ℕ) → are_named named (tags_of (a ++ (n ∷ b))) ≡ true → stands n.tag named ≡ false
  unfolding are_named stands
  named_once [] named h =
      let first = and_both (is_named n.tag) (not (stands n.tag named) && are_named (n.tag ∷ named) (tags_of b)) h in
      not_true (stands n.tag named)
      (and_both (not (stands n.tag named)) (are_named (n.tag ∷ named) (tags_of b)) first.1).0
  named_once (x ∷ a) named h =
      (or_neither (eqb n.tag x.tag) (stands n.tag named)
      (named_once a (x.tag ∷ named) (named_parts x.tag named (tags_of (a ++ (n ∷ b))) h).1)).1

  stretch_there : (a : List Named) (named : List ℕ) (at : ℕ) → are_named named (tags_of (a ++ (n ∷ b))) ≡ true
      → stretch_from at n.tag (a ++ (n ∷ b)) ≡ own_stretch (at + length (elements_octets a)) n
  unfolding stretch_from elements_octets stands
  stretch_there [] named at h = rw (eq-eqb n.tag n.tag refl, add-zero at)
  stretch_there (x ∷ a) named at h =
      let rest = (named_parts x.tag named (tags_of (a ++ (n ∷ b))) h).1 in
      let other = (or_neither (eqb n.tag x.tag) (stands n.tag named) (named_once a (x.tag ∷ named) rest)).0 in
      let differs = eqb-false n.tag x.tag other in
      let sum = length-append (element_octets x) (elements_octets a) in
      let on : at + length (element_octets x) + length (elements_octets a)
      ≡ at + length (element_octets x ++ elements_octets a) = omega (arith, sum) in
      rw (ne_eqb x.tag n.tag (λ z. differs (sym z)))
      (stretch_there a (x.tag ∷ named) (at + length (element_octets x)) rest ∙ rw on)

  content_short : (a : List Named) → length (elements_octets (a ++ (n ∷ b))) ≤ 65535 → length n.content ≤ 65535
  unfolding elements_octets
  content_short a h =
      let all = ap length (elements_append a (n ∷ b)) in
      let before = length-append (elements_octets a) (element_octets n ++ elements_octets b) in
      let own = length-append (element_octets n) (elements_octets b) in
      omega (arith, h, all, before, own, own_most n)

  -- what stands at its place, by whether it is the template
  cut_given : (c : Bool) (at : ℕ) (s : List ℕ) → drop at s ≡ element_octets n ++ elements_octets b → is_named n.tag ≡ true
      → length n.content ≤ 65535
      → cut s (cond c (record { from = at; to = at + length (element_octets n) }) (held_from at n))
      ≡ cond c (element_octets n) n.content
  unfolding cut
  cut_given true at s e named most =
      ap (take (at + length (element_octets n) - at)) e
      ∙ take_at (element_octets n) (elements_octets b) (at + length (element_octets n) - at) (omega arith)
  cut_given false at s e named most = (element_back s at n (elements_octets b) named most e).held_there

  pub detail_there : (a : List Named) → Right (a ++ (n ∷ b))
      → cut (group_octets (a ++ (n ∷ b))) (stretch_of n.tag (a ++ (n ∷ b))) ≡ given_octets n
  unfolding stretch_of own_stretch given_octets elements_octets
  detail_there a right =
      let ns = a ++ (n ∷ b) in
      let s = group_octets ns in
      let long = length (elements_octets a) in
      let here : drop (elements_at ns + long) s ≡ element_octets n ++ elements_octets b = sym (drop-drop long (elements_at ns) s)
      ∙ (ap (drop long) (elements_here ns right ∙ elements_append a (n ∷ b))
      ∙ drop_at (elements_octets a) (element_octets n ++ elements_octets b) long refl) in
      rw (stretch_there a [] (elements_at ns) right.named)
      (cut_given (eqb n.tag other_names_tag) (elements_at ns + long) s here (named_at a [] right.named)
      (content_short a (elements_most ns right)))

  -- a stretch that is not empty has some content
  pub content_some : (a : List Named) → Right (a ++ (n ∷ b)) → eqb n.tag other_names_tag ≡ false
      → (stretch_of n.tag (a ++ (n ∷ b))).from < (stretch_of n.tag (a ++ (n ∷ b))).to → 0 < length n.content
  unfolding stretch_of own_stretch element_octets tlv
  content_some a right other some =
      let tag = tag_octets (stands_for n.tag) in
      let told = length_octets (length n.content) in
      let one = length-append tag (told ++ n.content) in
      let two = length-append told n.content in
      let own = rw (stretch_there a [] (elements_at (a ++ (n ∷ b))) right.named, other) at some in
      omega (arith, one, two, own)

none_from : (ns : List Named) (at asked : ℕ) → stands asked (tags_of ns) ≡ false
    → stretch_from at asked ns ≡ record { from = 0; to = 0 }
unfolding stretch_from stands
none_from [] at asked e = refl
none_from (n ∷ ns) at asked e =
    let k = or_neither (eqb asked n.tag) (stands asked (tags_of ns)) e in
    let differs = eqb-false asked n.tag k.0 in
    rw (ne_eqb n.tag asked (λ z. differs (sym z))) (none_from ns (at + length (element_octets n)) asked k.1)

pub detail_none : (ns : List Named) (asked : ℕ) → stands asked (tags_of ns) ≡ false
    → stretch_of asked ns ≡ record { from = 0; to = 0 }
unfolding stretch_of
detail_none ns asked e = none_from ns (elements_at ns) asked e

-- ---- no others

same_elements : (ns ms : List Named) → tags_of ns ≡ tags_of ms → length (elements_octets ns) ≤ 65535
    → length (elements_octets ms) ≤ 65535 → elements_octets ns ≡ elements_octets ms → ns ≡ ms
unfolding elements_octets element_octets
same_elements [] [] t p q e = refl
same_elements [] (m ∷ ms) t p q e = absurd (some_none m.tag (tags_of ms) (sym t))
same_elements (n ∷ ns) [] t p q e = absurd (some_none n.tag (tags_of ns) t)
same_elements (n ∷ ns) (m ∷ ms) t p q e =
    let tag = first_same n.tag m.tag (tags_of ns) (tags_of ms) t in
    let a = length-append (element_octets n) (elements_octets ns) in
    let b = length-append (element_octets m) (elements_octets ms) in
    let f = prefix_free (stands_for n.tag) n.content m.content (elements_octets ns) (elements_octets ms)
    (omega (arith, p, a, own_most n)) (omega (arith, q, b, own_most m))
    (e ∙ ap (λ (x : ℕ). tlv (stands_for x) m.content ++ elements_octets ms) (sym tag)) in
    let rest = same_elements ns ms (rest_same n.tag m.tag (tags_of ns) (tags_of ms) t) (omega (arith, p, a))
    (omega (arith, q, b)) f.1 in
    joined n m ns ms tag f.0 rest
  where
    joined : (n m : Named) (ns ms : List Named) → n.tag ≡ m.tag → n.content ≡ m.content → ns ≡ ms → n ∷ ns ≡ m ∷ ms
    joined n m ns ms x y z = rw (x, y, z)

pub no_other_elements : (ns ms : List Named) → Right ns → Right ms → group_octets ns ≡ group_octets ms → ns ≡ ms
unfolding group_octets group_content
no_other_elements ns ms p q e =
    let a = length-append (tlv tag_list (list_octets ns)) (elements_octets ns) in
    let b = length-append (tlv tag_list (list_octets ms)) (elements_octets ms) in
    let c = length-tlv tag_list (list_octets ns) in
    let d = length-tlv tag_list (list_octets ms) in
    let x = p.content_most in
    let y = q.content_most in
    let f = prefix_free group_tag (group_content ns) (group_content ms) [] [] x y (ap (λ (l : List ℕ). l ++ []) e) in
    let g = prefix_free tag_list (list_octets ns) (list_octets ms) (elements_octets ns) (elements_octets ms)
    (omega (arith, x, a, c)) (omega (arith, y, b, d)) f.0 in
    let tags = sym (list_back ns [] p.named) ∙ (ap tags_in g.0 ∙ list_back ms [] q.named) in
    same_elements ns ms tags (omega (arith, x, a)) (omega (arith, y, b)) g.1

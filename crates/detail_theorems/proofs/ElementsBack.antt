-- Where encodings of elements stand that a list names, they are read, and agree with it.
use Prim.Native.Nat.{ℕ, ◌+◌, ◌*◌, ◌≤◌, ◌<◌}
use mathlib.Core.Path.{◌≡◌, refl, ap, ◌∙◌}
use mathlib.Core.Bool.{Bool, true, false, cond}
use mathlib.Core.List.{List, [], ◌∷◌, ◌++◌}
use native.Mathlib.Omega.{arith}
use borrow.Author.Tests.{le-ltb, eqb-true, eq-eqb, ne_eqb}
use lib.Dec.{eqb}
use lib.ListN.{length, drop, get_or, length-append, length-drop}
use Rattle.refusal.specs.Outcome.{passed}
use Rattle.tlv.specs.declared.Stretch.{Stretch}
use Rattle.tlv.specs.Read.{value, and_then}
use Rattle.tlv.specs.Element.{tag_octets, length_octets, tlv, tag_at, tag_width, element, sized, size_at}
use Rattle.tlv.specs.Cut.{cut}
use Rattle.tlv.proofs.Joined.{kept_value}
use Rattle.tlv.proofs.Encoded.{back, head_octets, length-tlv, some_head}
use Rattle.tlv.proofs.Standing.{cut_there, to_behind}
use Rattle.details.specs.Tags.{template_tag, other_names_tag, is_named, stands_for, tag_here, is_detail}
use Rattle.details.specs.Details.{Detail, detail_at, details, are_named, agrees, given, value_for}
use Rattle.details.proofs.Listed.{named_between}
use Rattle.details.proofs.Walked.{before, details_next, details_done}
use Rattle.details.proofs.SideBySide.{asked_back}
use Rattle.detail_theorems.specs.Named.{Named, tags_of, element_octets, elements_octets, head, own_stretch, stretch_from}
use Rattle.detail_theorems.proofs.ListOctets.{named_parts}

-- ---- one element

-- what stands for a named tag is a detail's tag
tag_told : (s : List ℕ) (at t : ℕ) → is_named t ≡ true → tag_at s at (stands_for t) ≡ stands_for t
    → (tag_here s at ≡ stands_for t) × (is_detail s at ≡ true)
unfolding tag_at stands_for tag_here is_detail
tag_told s at t named e = go (eqb t other_names_tag) refl e
  where
    go : (b : Bool) → eqb t other_names_tag ≡ b → tag_at s at (cond b template_tag t) ≡ cond b template_tag t
        → (tag_here s at ≡ cond b template_tag t) × (is_detail s at ≡ true)
    go true q f = (rw f, rw f)
    go false q f =
        let k = named_between t named in
        let two : get_or s at 0 * 256 + get_or s (at + 1) 0 ≡ t = rw (le-ltb t 256 (omega (arith, k.0))) at f in
        let other = ne_eqb (get_or s at 0) template_tag (λ z. omega (arith, two, z, k.1)) in
        (rw (other, two), rw (other, two, named))

-- how many octets an element has before its content
pub head_same : (tag : ℕ) (c : List ℕ) → head_octets tag (length c) ≡ head tag c
unfolding tlv
head_same tag c =
    let one = length-tlv tag c in
    let two = length-append (tag_octets tag) (length_octets (length c) ++ c) in
    let three = length-append (length_octets (length c)) c in
    omega (arith, one, two, three)

abbrev pub held_from : ℕ → Named → Stretch
held_from at n = record { from = at + head (stands_for n.tag) n.content; to = at + length (element_octets n) }

pub record Back (s : List ℕ) (at : ℕ) (n : Named) (rest : List ℕ) : Type 0 where
  pub told : tag_here s at ≡ stands_for n.tag
  pub detail : detail_at s at ≡ value (held_from at n)
  pub here : at < length s
  pub held_there : cut s (held_from at n) ≡ n.content
  pub behind : drop (at + length (element_octets n)) s ≡ rest

pub element_back : (s : List ℕ) (at : ℕ) (n : Named) (rest : List ℕ) → is_named n.tag ≡ true → length n.content ≤ 65535
    → drop at s ≡ element_octets n ++ rest → Back s at n rest
unfolding element_octets detail_at element
element_back s at n rest named most e =
    let tag = stands_for n.tag in
    let b = back s at tag n.content rest most e in
    let v = b.0 in
    let there = b.2 in
    let size = at + tag_width tag in
    let kept = kept_value (eqb (tag_at s at tag) tag) (sized s at size (size_at s size)) _ at v b.1 in
    let t = tag_told s at n.tag named (eqb-true (tag_at s at tag) tag kept.0) in
    let from : v.from ≡ at + head tag n.content = there.from_place
    ∙ ap (λ (k : ℕ). at + k) (head_same tag n.content) in
    let to = to_behind s at tag n.content rest v there in
    let place = there.from_place in
    let end = there.to_place in
    let within = there.ends_within_lem in record {
      told = t.0;
      detail = rw (t.1, t.0) (b.1 ∙ rw (← from, ← to));
      held_there = rw (← from, ← to) (cut_there s at tag n.content rest v there);
      here = omega (arith, place, end, within, some_head tag (length n.content));
      behind = rw (← to) there.rest_there;
    }

-- ---- elements

-- as they are read
unfoldable pub placed : ℕ → List Named → List Detail
placed at [] = []
placed at (n ∷ ns) =
    record { tag = stands_for n.tag; at = at; held = held_from at n } ∷ placed (at + length (element_octets n)) ns

pub own_most : (n : Named) → length n.content ≤ length (element_octets n)
unfolding element_octets
own_most n = let l = length-tlv (stands_for n.tag) n.content in omega (arith, l)

pub elements_back : (ns : List Named) (named : List ℕ) (s : List ℕ) (at : ℕ) → are_named named (tags_of ns) ≡ true
    → length (elements_octets ns) ≤ 65535 → drop at s ≡ elements_octets ns → details s at ≡ value (placed at ns)
unfolding elements_octets placed before and_then
elements_back [] named s at h most e =
    let k = ap length e in
    let l = length-drop at s in
    details_done s at (omega (arith, k, l))
elements_back (n ∷ ns) named s at h most e =
    let a = named_parts n.tag named (tags_of ns) h in
    let sum = length-append (element_octets n) (elements_octets ns) in
    let own = own_most n in
    let b = element_back s at n (elements_octets ns) a.0 (omega (arith, most, sum, own)) e in
    let next = at + length (element_octets n) in
    let more = elements_back ns (n.tag ∷ named) s next a.1 (omega (arith, most, sum)) b.behind in
    details_next s at (held_from at n) b.here b.detail ∙ rw (more, b.told)

pub placed_agree : (ns : List Named) (end at : ℕ) → agrees end (tags_of ns) (placed at ns) ≡ passed
unfolding agrees placed
placed_agree [] end at = refl
placed_agree (n ∷ ns) end at =
    rw (eq-eqb (stands_for n.tag) (stands_for n.tag) refl) (placed_agree ns end (at + length (element_octets n)))

-- ---- the value of one

-- A0 stands for 5F0F alone
for_template : (t : ℕ) → is_named t ≡ true → eqb (stands_for t) template_tag ≡ eqb t other_names_tag
unfolding stands_for
for_template t named = go (eqb t other_names_tag)
  where
    go : (b : Bool) → eqb (cond b template_tag t) template_tag ≡ b
    go true = refl
    go false = let k = named_between t named in ne_eqb t template_tag (λ z. omega (arith, z, k.0))

pub placed_value : (ns : List Named) (named : List ℕ) (at asked : ℕ) → are_named named (tags_of ns) ≡ true
    → value_for asked (placed at ns) ≡ stretch_from at asked ns
unfolding value_for placed stretch_from given own_stretch
placed_value [] named at asked h = refl
placed_value (n ∷ ns) named at asked h =
    let a = named_parts n.tag named (tags_of ns) h in
    rw (
      asked_back n.tag a.0,
      for_template n.tag a.0,
      placed_value ns (n.tag ∷ named) (at + length (element_octets n)) asked a.1,
    )

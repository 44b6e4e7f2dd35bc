-- DEMAND 2 of a file of group 11: it is read exactly when its octets are those of a list and of the elements that it names
-- (`details_exactly`), and what is told of an element is where it stands (`detail_told`).
use Prim.Native.Nat.{ℕ, ◌-◌, ◌≤◌, ◌<◌}
use mathlib.Core.Path.{◌≡◌, ap, sym, ◌∙◌}
use mathlib.Core.Bool.{true}
use mathlib.Core.List.{List, [], ◌++◌, append-nil}
use mathlib.Core.Logic.{◌↔◌}
use native.Mathlib.Nat.{zero-add}
use native.Mathlib.Omega.{arith}
use borrow.Author.Tests.{eq-eqb, eqb-true}
use lib.ListN.{length, take, drop, get_or, length-append, drop_of_length-le}
use lib.Seq.{take-length}
use Rattle.lent.proofs.Lists.{rest_all}
use Rattle.refusal.specs.Outcome.{passed, unless}
use Rattle.refusal.proofs.Outcomes.{unless_kept}
use Rattle.zone.specs.Octets.{is_octet, AreOctets}
use Rattle.zone.proofs.Every.{every_take, every_drop}
use Rattle.zone.proofs.Octets.{octet_below}
use Rattle.tlv.specs.declared.Stretch.{Stretch}
use Rattle.tlv.specs.Read.{value, and_then, checked}
use Rattle.tlv.specs.Element.{tlv, element}
use Rattle.tlv.specs.Cut.{cut, end_check}
use Rattle.tlv.specs.Tags.{tag_list}
use Rattle.tlv.proofs.Joined.{first_value, checked_value}
use Rattle.tlv.proofs.Encoded.{reads, back, length-tlv}
use Rattle.tlv.proofs.Standing.{cut_there, to_behind, from_there}
use Rattle.details.specs.Tags.{group_tag, tags_in}
use Rattle.details.specs.Details.{Detail, details, is_list, agrees, read_details, read_detail}
use Rattle.detail_theorems.specs.Named.{Named, list_octets, elements_octets, group_content, group_octets}
use Rattle.detail_theorems.specs.Named.{Right, elements_at, stretch_of}
use Rattle.detail_theorems.proofs.ListOctets.{list_back, list_there}
use Rattle.detail_theorems.proofs.ElementsRead.{elements_there}
use Rattle.detail_theorems.proofs.ElementsBack.{head_same, placed, elements_back, placed_agree, placed_value}

-- ---- what is read is a list and its elements

module _ (s : List ℕ) (octets : AreOctets s) where
  small : (i : ℕ) → get_or s i 0 < 256
  small = octet_below s octets

  cut_small : (v : Stretch) (i : ℕ) → get_or (cut s v) i 0 < 256
  unfolding cut
  cut_small v i = octet_below (take (v.to - v.from) (drop v.from s))
      (every_take is_octet (v.to - v.from) (drop v.from s) (every_drop is_octet v.from s octets)) i

  -- where nothing follows the file, all of it stands in what was lent
  grouped : (v list : Stretch) (ds : List Detail) → element s 0 group_tag ≡ value v → v.to ≡ length s
      → element s v.from tag_list ≡ value list → details s list.to ≡ value ds → is_list (cut s list) ≡ true
      → agrees (length s) (tags_in (cut s list)) ds ≡ passed → (ns : List Named) × Right ns × (s ≡ group_octets ns)
  unfolding is_list cut group_content group_octets
  grouped v list ds ev whole el ed listed agreed =
      let file = reads s 0 group_tag small v ev in
      let l = reads s v.from tag_list small list el in
      let els = elements_there (length s) s small (tags_in (cut s list)) [] list.to ds ed listed agreed in
      let ns = els.elements in
      let named = rw (sym els.same_tags) at listed in
      let tags = list_there (cut s list) (cut_small list) ns [] (sym els.same_tags) named in
      let content : drop v.from s ≡ group_content ns = l.octets_there
      ∙ (ap (λ (x : List ℕ). tlv tag_list x ++ drop list.to s) tags
      ∙ ap (λ (x : List ℕ). tlv tag_list (list_octets ns) ++ x) els.octets_there) in
      let held : take (v.to - v.from) (drop v.from s) ≡ group_content ns = rw whole (rest_all s v.from) ∙ content in
      let past : length s ≤ v.to = omega (arith, whole) in (
        ns,
        record { named = named; content_most = rw held at file.content_most },
        file.octets_there
            ∙ (ap (λ (x : List ℕ). tlv group_tag x ++ drop v.to s) held
            ∙ (ap (λ (x : List ℕ). tlv group_tag (group_content ns) ++ x) (drop_of_length-le s past)
            ∙ append-nil (tlv group_tag (group_content ns)))),
      )

  -- the same of the octets up to the file's end, which are all
  all_grouped : (v list : Stretch) (ds : List Detail) → element s 0 group_tag ≡ value v
      → element (take v.to s) v.from tag_list ≡ value list → details (take v.to s) list.to ≡ value ds
      → end_check s v.to ≡ passed → unless (is_list (cut s list)) 20 v.from ≡ passed
      → agrees (length s) (tags_in (cut s list)) ds ≡ passed → (ns : List Named) × Right ns × (s ≡ group_octets ns)
  unfolding end_check
  all_grouped v list ds ev el ed ended listed agreed =
      let whole = eqb-true v.to (length s) (unless_kept _ 10 v.to ended) in
      let inner : take v.to s ≡ s = rw whole (take-length s) in
      grouped v list ds ev whole (rw inner at el) (rw inner at ed) (unless_kept _ 20 v.from listed) agreed

  pub read_grouped : (ds : List Detail) → read_details s ≡ value ds → (ns : List Named) × Right ns × (s ≡ group_octets ns)
  unfolding read_details
  read_grouped ds e =
      let a = first_value (element s 0 group_tag) _ ds e in
      let v = a.0 in
      let b = first_value (element (take v.to s) v.from tag_list) _ ds a.2 in
      let list = b.0 in
      let c = first_value (details (take v.to s) list.to) _ ds b.2 in
      let ended = checked_value (end_check s v.to) _ ds c.2 in
      let listed = checked_value (unless (is_list (cut s list)) 20 v.from) _ ds ended.1 in
      let agreed = checked_value (agrees (length s) (tags_in (cut s list)) c.0) _ ds listed.1 in
      all_grouped v list c.0 a.1 b.1 c.1 ended.0 listed.0 agreed.0

-- ---- a list and its elements are read

module _ (ns : List Named) (right : Right ns) where
  abbrev s : List ℕ
  s = group_octets ns

  -- where they stand
  record There : Type 0 where
    v : Stretch
    list : Stretch
    file_read : element s 0 group_tag ≡ value v
    whole : v.to ≡ length s
    list_read : element s v.from tag_list ≡ value list
    tags_there : cut s list ≡ list_octets ns
    elements_from : list.to ≡ elements_at ns
    elements_stand : drop list.to s ≡ elements_octets ns

  there : There
  unfolding group_octets group_content elements_at
  there =
      let c = group_content ns in
      let b = back s 0 group_tag c [] right.content_most (sym (append-nil (tlv group_tag c))) in
      let v = b.0 in
      let to = to_behind s 0 group_tag c [] v b.2 in
      let from = b.2.from_place in
      let content : drop v.from s ≡ c = from_there s 0 group_tag c [] v b.2 ∙ append-nil c in
      let sum = length-append (tlv tag_list (list_octets ns)) (elements_octets ns) in
      let long = length-tlv tag_list (list_octets ns) in
      let most = right.content_most in
      let l = back s v.from tag_list (list_octets ns) (elements_octets ns) (omega (arith, sum, long, most)) content in
      let behind = to_behind s v.from tag_list (list_octets ns) (elements_octets ns) l.0 l.2 in
      let same = head_same group_tag c in record {
        v = v;
        list = l.0;
        file_read = b.1;
        whole = to ∙ zero-add (length s);
        list_read = l.1;
        tags_there = cut_there s v.from tag_list (list_octets ns) (elements_octets ns) l.0 l.2;
        elements_from = omega (arith, from, behind, same);
        elements_stand = l.2.rest_there;
      }

  pub elements_most : length (elements_octets ns) ≤ 65535
  unfolding group_content
  elements_most =
      let sum = length-append (tlv tag_list (list_octets ns)) (elements_octets ns) in
      omega (arith, sum, right.content_most)

  pub elements_here : drop (elements_at ns) s ≡ elements_octets ns
  elements_here = rw (← there.elements_from) there.elements_stand

  pub details_back : read_details s ≡ value (placed (elements_at ns) ns)
  unfolding read_details and_then checked end_check is_list
  details_back =
      let t = there in
      let end = t.list.to in
      let inner : take t.v.to s ≡ s = rw t.whole (take-length s) in
      let read = elements_back ns [] s end right.named elements_most t.elements_stand in
      let tags = t.tags_there in
      let back = list_back ns [] right.named in
      rw (
        t.file_read,
        inner,
        t.list_read,
        read,
        eq-eqb t.v.to (length s) t.whole,
        tags,
        back,
        right.named,
        placed_agree ns (length s) end,
        t.elements_from,
      )

  pub detail_told : (asked : ℕ) → read_detail s asked ≡ value (stretch_of asked ns)
  unfolding read_detail and_then stretch_of
  detail_told asked = rw (details_back, placed_value ns [] (elements_at ns) asked right.named)

-- ---- the theorems

pub details_exactly : (s : List ℕ) → AreOctets s
    → ((ds : List Detail) × (read_details s ≡ value ds)) ↔ ((ns : List Named) × Right ns × (s ≡ group_octets ns))
details_exactly s octets = (
  λ r. read_grouped s octets r.0 r.1,
  λ g. (placed (elements_at g.0) g.0, rw g.2 (details_back g.0 g.1)),
)

-- DEMAND 2, stage 6: group 1 is read exactly when a file with tag 61 is lent that holds a text which is accepted, and nothing
-- else.
use Prim.Native.Nat.{ℕ, ◌+◌, ◌-◌, ◌≤◌}
use mathlib.Core.Path.{◌≡◌, refl, ap, sym, ◌∙◌, subst}
use mathlib.Core.Bool.{Bool, true, false, cond, not, ◌&&◌, false≢true}
use mathlib.Core.List.{List, [], ◌∷◌, ◌++◌, append-nil}
use mathlib.Core.Logic.{inl, inr}
use native.Mathlib.Omega.{arith}
use borrow.Author.Tests.{eqb-true, eq-eqb, ne_eqb, not-true, leb-true}
use lib.Dec.{eqb, leb}
use lib.ListN.{length, take, drop, get_or}
use Rattle.lent.proofs.Bools.{and_both}
use Rattle.refusal.specs.Outcome.{Outcome, passed, refused}
use Rattle.zone.specs.declared.form.Source.TheVariants.{GroupOne}
use Rattle.zone.specs.declared.record.Record.{Record}
use Rattle.text.specs.Read.{read_text}
use Rattle.tlv.specs.declared.Stretch.{Stretch}
use Rattle.tlv.specs.Read.{value, checked}
use Rattle.tlv.specs.Element.{tlv, element}
use Rattle.tlv.proofs.Joined.{same_value, never_value, first_value, value_then, checked_value, value_checked}
use Rattle.tlv.proofs.Encoded.{inside}
use Rattle.tlv.specs.Cut.{cut, end_check}
use Rattle.lent.specs.Octets.{stands}
use Rattle.tlv.specs.Tags.{group_of}
use Rattle.outer.specs.declared.File.{File}
use Rattle.group_text.specs.Text.{moved, text_at}
use Rattle.chip.specs.Presentation.{first_file, group_one}
use Rattle.zone.specs.Octets.{AreOctets}
use Rattle.presentation_theorems.specs.Presented.{Lent, IsIn, is_once, tags_of}
use Rattle.presentation_theorems.proofs.NoneTwice.{stands_later}
use Rattle.tlv.proofs.Standing.{last_read, cut_there, place_behind}
use Rattle.presentation_theorems.proofs.Elements.{octets_before, take_most, read_element, nothing_left, left_nothing}
use Rattle.presentation_theorems.proofs.GroupFiles.{lent_at, lent_in, FileStands, EachStands}

-- ---- the tag of group 1

pub one_tag : (tag : ℕ) → group_of tag ≡ 1 → tag ≡ 0x61
unfolding group_of
one_tag tag e =
    go (eqb tag 0x61) (eqb tag 0x75) (eqb tag 0x63) (eqb tag 0x76) (eqb tag 0x65) (leb 0x67 tag && leb tag 0x70) refl refl e
  where
    go : (a b c d f g : Bool) → eqb tag 0x61 ≡ a → leb 0x67 tag && leb tag 0x70 ≡ g
        → cond a 1 (cond b 2 (cond c 3 (cond d 4 (cond f 5 (cond g (tag - 0x60) 0))))) ≡ 1 → tag ≡ 0x61
    go true b c d f g p q h = eqb-true tag 0x61 p
    go false true c d f g p q h = absurd (omega arith)
    go false false true d f g p q h = absurd (omega arith)
    go false false false true f g p q h = absurd (omega arith)
    go false false false false true g p q h = absurd (omega arith)
    go false false false false false true p q h =
        let both = and_both (leb 0x67 tag) (leb tag 0x70) q in
        absurd (omega (arith, leb-true 0x67 tag both.0))
    go false false false false false false p q h = absurd (omega arith)

pub tag_one : group_of 0x61 ≡ 1
unfolding group_of
tag_one = refl

-- ---- the text inside

pub passed_moved : (at : ℕ) (o : Outcome) (k r : Record) → moved at (record { outcome = o; kept = k }) ≡ value r
    → (o ≡ passed) × (k ≡ r)
unfolding moved checked
passed_moved at passed k r e = (refl, same_value e)
passed_moved at (refused n p) k r e = absurd (never_value n (at + p) r e)

pub moved_passed : (at : ℕ) (o : Outcome) (k : Record) → o ≡ passed → moved at (record { outcome = o; kept = k }) ≡ value k
unfolding moved checked
moved_passed at o k e = rw e

module _ (s : List ℕ) (at : ℕ) where
  text_read : AreOctets s → (r : Record) → text_at s at ≡ value r
      → (t : List ℕ) × (drop at s ≡ tlv 0x5F1F t) × ((read_text GroupOne t).outcome ≡ passed) × ((read_text GroupOne t).kept ≡ r)
  unfolding text_at
  text_read small r e =
      let a = first_value (element s at 0x5F1F)
      (λ (u : Stretch). checked (end_check s u.to) (moved u.from (read_text GroupOne (cut s u)))) r e in
      let v = a.0 in
      let b = checked_value (end_check s v.to) (moved v.from (read_text GroupOne (cut s v))) r a.2 in
      let h = read_element s at 0x5F1F small v a.1 in
      let t = cut s v in
      let m = passed_moved v.from (read_text GroupOne t).outcome (read_text GroupOne t).kept r b.1 in (
        t,
        h.octets_there ∙ ap (λ (l : List ℕ). tlv 0x5F1F t ++ l) (nothing_left s v.to b.0) ∙ append-nil (tlv 0x5F1F t),
        m.0,
        m.1,
      )

  read_text_lem : length s ≤ 65535 → (t : List ℕ) → drop at s ≡ tlv 0x5F1F t → (read_text GroupOne t).outcome ≡ passed
      → text_at s at ≡ value (read_text GroupOne t).kept
  unfolding text_at
  read_text_lem most t e k =
      let a = last_read s at 0x5F1F most t e in
      let v = a.0 in
      let places = place_behind s at 0x5F1F t [] v a.2 in
      let there : cut s v ≡ t = cut_there s at 0x5F1F t [] v a.2 in
      let r = (read_text GroupOne t).kept in
      let read : moved v.from (read_text GroupOne (cut s v)) ≡ value r =
      ap (λ (x : List ℕ). moved v.from (read_text GroupOne x)) there
      ∙ moved_passed v.from (read_text GroupOne t).outcome r k in
      value_then (element s at 0x5F1F) (λ (u : Stretch). checked (end_check s u.to) (moved u.from (read_text GroupOne
      (cut s u)))) v
      (value r) a.1
      (value_checked (end_check s v.to) (moved v.from (read_text GroupOne (cut s v))) (value r)
      (left_nothing s v.to places.2 a.2.rest_there) read)

-- ---- the first file of a group

first_found : (w : List ℕ) (g : ℕ) (fs : List File) (f : File) → first_file w g fs ≡ value f
    → IsIn f fs × IsIn (lent_at w f) (lent_in w fs) × (group_of (get_or w f.start 0) ≡ g)
unfolding first_file IsIn lent_in
first_found w g [] f e = absurd (never_value _ (length w) f e)
first_found w g (x ∷ fs) f e = go (eqb (group_of (get_or w x.start 0)) g) refl e (first_found w g fs f)
  where
    go : (b : Bool) → eqb (group_of (get_or w x.start 0)) g ≡ b → cond b (value x) (first_file w g fs) ≡ value f
        → (first_file w g fs ≡ value f → IsIn f fs × IsIn (lent_at w f) (lent_in w fs) × (group_of (get_or w f.start 0) ≡ g))
        → IsIn f (x ∷ fs) × IsIn (lent_at w f) (lent_at w x ∷ lent_in w fs) × (group_of (get_or w f.start 0) ≡ g)
    go true p h rest =
        let same : x ≡ f = same_value h in (
          inl (sym same),
          inl (ap (lent_at w) (sym same)),
          ap (λ (y : File). group_of (get_or w y.start 0)) (sym same) ∙ eqb-true
              (group_of (get_or w x.start 0)) g p,
        )
    go false p h rest = let r = rest h in (inr r.0, inr r.1, r.2)

pub in_tags : (l : Lent) (ls : List Lent) → IsIn l ls → stands l.tag (tags_of ls) ≡ true
unfolding IsIn tags_of stands
in_tags l [] k = absurd k
in_tags l (y ∷ ys) (inl e) = rw (eq-eqb l.tag y.tag (ap (λ (z : Lent). z.tag) e))
in_tags l (y ∷ ys) (inr m) = stands_later l.tag y.tag (tags_of ys) (in_tags l ys m)

-- where no tag is lent twice, the file with tag 61 is the one that is found
found_first : (w c : List ℕ) (fs : List File) → is_once (tags_of (lent_in w fs)) ≡ true
    → IsIn (record { tag = 0x61; content = c }) (lent_in w fs)
    → (f : File) × (first_file w 1 fs ≡ value f) × IsIn f fs × (cut w f.held ≡ c)
unfolding first_file IsIn lent_in lent_at tags_of is_once
found_first w c [] once k = absurd k
found_first w c (x ∷ fs) once (inl e) =
    let tag : 0x61 ≡ get_or w x.start 0 = ap (λ (z : Lent). z.tag) e in
    let group : group_of (get_or w x.start 0) ≡ 1 = ap group_of (sym tag) ∙ tag_one in
    (x, rw (eq-eqb (group_of (get_or w x.start 0)) 1 group), inl refl, sym (ap (λ (z : Lent). z.content) e))
found_first w c (x ∷ fs) once (inr m) =
    let t = get_or w x.start 0 in
    let a = and_both (not (stands t (tags_of (lent_in w fs)))) (is_once (tags_of (lent_in w fs))) once in
    let later : stands 0x61 (tags_of (lent_in w fs)) ≡ true = in_tags (record { tag = 0x61; content = c }) (lent_in w fs) m in
    let none : stands t (tags_of (lent_in w fs)) ≡ false = not-true (stands t (tags_of (lent_in w fs))) a.0 in
    let other : eqb (group_of t) 1 ≡ false = ne_eqb (group_of t) 1
    (λ f. false≢true (sym none ∙ ap (λ (z : ℕ). stands z (tags_of (lent_in w fs))) (one_tag t f) ∙ later)) in
    let rest = found_first w c fs a.1 m in
    (rest.0, rw other rest.1, inr rest.2, rest.3)

-- ---- group 1

module _ (w : List ℕ) (fs : List File) (each : EachStands w fs) where
  pub one_read : AreOctets w → (r : Record) → group_one w fs ≡ value r
      → (t : List ℕ) × IsIn (record { tag = 0x61; content = tlv 0x5F1F t }) (lent_in w fs) × ((read_text GroupOne t).outcome
      ≡ passed)
      × ((read_text GroupOne t).kept ≡ r)
  unfolding group_one EachStands FileStands lent_at
  one_read small r e =
      let a = first_value (first_file w 1 fs) (λ (f : File). text_at (take f.held.to w) f.held.from) r e in
      let f = a.0 in
      let found = first_found w 1 fs f a.1 in
      let h = each f found.0 in
      let n = get_or w f.start 0 in
      let b = text_read (take f.held.to w) f.held.from (octets_before f.held.to w small) r a.2 in
      let content : cut w f.held ≡ tlv 0x5F1F b.0 = sym
      (inside w f.start n (cut w f.held) (drop f.held.to w) f.held h) ∙ b.1 in
      (b.0, subst (λ (l : Lent). IsIn l (lent_in w fs)) (same f b.0 (one_tag n found.2) content) found.1, b.2, b.3)
    where
      same : (f : File) (t : List ℕ) → get_or w f.start 0 ≡ 0x61 → cut w f.held ≡ tlv 0x5F1F t
          → lent_at w f ≡ record { tag = 0x61; content = tlv 0x5F1F t }
      same f t p q = λ i. record { tag = p i; content = q i }

  pub read_one : length w ≤ 65535 → (t : List ℕ) → is_once (tags_of (lent_in w fs)) ≡ true
      → IsIn (record { tag = 0x61; content = tlv 0x5F1F t }) (lent_in w fs)
      → (read_text GroupOne t).outcome ≡ passed → group_one w fs ≡ value (read_text GroupOne t).kept
  unfolding group_one EachStands FileStands
  read_one most t once k p =
      let a = found_first w (tlv 0x5F1F t) fs once k in
      let f = a.0 in
      let n = get_or w f.start 0 in
      let h = each f a.2 in
      let there = inside w f.start n (cut w f.held) (drop f.held.to w) f.held h ∙ a.3 in
      value_then (first_file w 1 fs) (λ (x : File). text_at (take x.held.to w) x.held.from) f (value
      (read_text GroupOne t).kept)
      a.1
      (read_text_lem (take f.held.to w) f.held.from (take_most f.held.to 65535 w most) t there p)

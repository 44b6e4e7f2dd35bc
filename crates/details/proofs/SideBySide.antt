-- Where every element is rightly coded, list and elements side by side, from place to place, say what the paper's words say.
use Prim.Native.Nat.{ℕ, ◌≤◌, ◌<◌}
use mathlib.Core.Path.{◌≡◌, refl, ap, sym, ◌∙◌}
use mathlib.Core.Bool.{Bool, true, false, cond, not, ◌&&◌, false≢true}
use mathlib.Core.List.{List, [], ◌∷◌}
use borrow.Author.Tests.{le-leb, lt-leb, leb-true, leb-false, eqb-true}
use lib.Dec.{eqb, leb}
use lib.ListN.{length, take}
use Rattle.lent.specs.Octets.{stands}
use Rattle.lent.proofs.Bools.{and_both}
use Rattle.refusal.specs.Numbers.{by}
use Rattle.refusal.specs.Outcome.{Outcome, passed, refused, or_else, unless}
use Rattle.refusal.proofs.Outcomes.{refused_not_passed}
use Rattle.tlv.specs.declared.Stretch.{Stretch}
use Rattle.tlv.specs.Read.{Read, value, refusal, and_then, checked, outcome_in}
use Rattle.tlv.specs.Element.{element}
use Rattle.tlv.specs.Cut.{cut, end_check}
use Rattle.tlv.specs.Tags.{tag_list}
use Rattle.tlv.proofs.Joined.{never_value, same_value}
use Rattle.details.specs.Tags.{group_tag, template_tag, other_names_tag, is_named, stands_for, asked_as, tag_here, tags_in}
use Rattle.details.specs.Details.{Detail, detail_at, details, are_named, is_list, agrees, value_for}
use Rattle.details.specs.Details.{read_details, read_detail}
use Rattle.details.specs.Inner.Places.{held_or, held_at, detail_here, agrees_at, value_at}
use Rattle.details.specs.Inner.Onward.{behind_list, behind_file}
use Rattle.details.proofs.Walked.{before, details_next, details_refused, details_done}

-- elements that were read end here, or one stands here and the others behind it
pub walk_cases : {P : Type 0} (s : List ℕ) (at : ℕ) (ds : List Detail) → details s at ≡ value ds
    → (length s ≤ at → ds ≡ [] → P)
    → ((v : Stretch) (rest : List Detail) → at < length s → detail_at s at ≡ value v → details s v.to ≡ value rest
    → ds ≡ record { tag = tag_here s at; at = at; held = v } ∷ rest → P)
    → P
unfolding before and_then
walk_cases {P} s at ds e none some = ends (leb (length s) at) refl
  where
    behind : (v : Stretch) (m : Read (List Detail)) → at < length s → detail_at s at ≡ value v → details s v.to ≡ m
        → before s at v m ≡ value ds → P
    behind v (value rest) h d r f = some v rest h d r (sym (same_value f))
    behind v (refusal n p) h d r f = absurd (never_value n p ds f)

    here : (m : Read Stretch) → at < length s → detail_at s at ≡ m → P
    here (value v) h d = behind v (details s v.to) h d refl (sym (details_next s at v h d) ∙ e)
    here (refusal n p) h d = absurd (never_value n p ds (sym (details_refused s at n p h d) ∙ e))

    ends : (b : Bool) → leb (length s) at ≡ b → P
    ends true b = let h = leb-true (length s) at b in none h (sym (same_value (sym (details_done s at h) ∙ e)))
    ends false b = here (detail_at s at) (leb-false (length s) at b) refl

agree_same : (named : List ℕ) (end : ℕ) (s : List ℕ) (at : ℕ) (ds : List Detail) → details s at ≡ value ds
    → agrees_at end s named at ≡ agrees end named ds
unfolding agrees_at agrees held_at held_or
agree_same [] end s at ds e = walk_cases s at ds e
    (λ h z. rw (z, le-leb (length s) at h))
    (λ v rest h d r z. rw (z, lt-leb (length s) at h))
agree_same (t ∷ ts) end s at ds e = walk_cases s at ds e
    (λ h z. rw (z, le-leb (length s) at h))
    (λ v rest h d r z. rw (z, lt-leb (length s) at h, d, agree_same ts end s v.to rest r))

-- what stands for a named tag is asked for by it
pub asked_back : (t : ℕ) → is_named t ≡ true → asked_as (stands_for t) ≡ t
unfolding asked_as stands_for is_named
asked_back t e = go (eqb t other_names_tag) refl (eqb t template_tag) refl
  where
    go : (a : Bool) → eqb t other_names_tag ≡ a → (b : Bool) → eqb t template_tag ≡ b → asked_as (cond a template_tag t) ≡ t
    go true p b q = sym (eqb-true t other_names_tag p)
    go false p true q = absurd (false≢true (rw (eqb-true t template_tag q) at e))
    go false p false q = rw q

value_same : (named before : List ℕ) (asked end : ℕ) (s : List ℕ) (at : ℕ) (ds : List Detail) → details s at ≡ value ds
    → are_named before named ≡ true → agrees end named ds ≡ passed → value_at asked s named at ≡ value_for asked ds
unfolding value_at value_for agrees are_named detail_here held_at held_or
value_same [] before asked end s at ds e n k = walk_cases s at ds e
    (λ h z. rw z)
    (λ v rest h d r z. absurd (refused_not_passed (rw z at k)))
value_same (t ∷ ts) before asked end s at ds e n k = walk_cases s at ds e
    (λ h z. absurd (refused_not_passed (rw z at k)))
    (λ v rest h d r z. go v rest d z (eqb (tag_here s at) (stands_for t)) refl (rw z at k)
    (λ m j. value_same ts (t ∷ before) asked end s v.to rest r m j))
  where
    go : (v : Stretch) (rest : List Detail) → detail_at s at ≡ value v
        → ds ≡ record { tag = tag_here s at; at = at; held = v } ∷ rest
        → (b : Bool) → eqb (tag_here s at) (stands_for t) ≡ b
        → cond (eqb (tag_here s at) (stands_for t)) (agrees end ts rest) (refused (by 20) at) ≡ passed
        → (are_named (t ∷ before) ts ≡ true → agrees end ts rest ≡ passed → value_at asked s ts v.to ≡ value_for asked rest)
        → value_at asked s (t ∷ ts) at ≡ value_for asked ds
    go v rest d z true q f ih =
        let a = and_both (is_named t) (not (stands t before) && are_named (t ∷ before) ts) n in
        let c = and_both (not (stands t before)) (are_named (t ∷ before) ts) a.1 in
        let w = ap asked_as (eqb-true (tag_here s at) (stands_for t) q) ∙ asked_back t a.0 in
        rw (z, d, w, ih c.1 (rw q at f))
    go v rest d z false q f ih = absurd (refused_not_passed (rw q at f))

-- ---- the whole, as the code goes

module _ (s : List ℕ) (asked : ℕ) (v list : Stretch) where
  listed : (m : Read (List Detail)) → details (take v.to s) list.to ≡ m
      → behind_list s asked v list
      ≡ and_then (and_then m (λ ds. checked (end_check s v.to)
      (checked (unless (is_list (cut s list)) 20 v.from)
      (checked (agrees (length s) (tags_in (cut s list)) ds) (value ds)))))
      (λ ds. value (value_for asked ds))
  unfolding and_then checked outcome_in is_list
  listed (refusal n p) e = rw e
  listed (value ds) e =
      rw (e, agree_same (tags_in (cut s list)) (length s) (take v.to s) list.to ds e)
      (go (end_check s v.to) (are_named [] (tags_in (cut s list))) refl (agrees (length s) (tags_in (cut s list)) ds) refl)
    where
      go : (x : Outcome) (b : Bool) → are_named [] (tags_in (cut s list)) ≡ b → (y : Outcome)
          → agrees (length s) (tags_in (cut s list)) ds ≡ y
          → checked (or_else x (or_else (unless b 20 v.from) y))
          (value (value_at asked (take v.to s) (tags_in (cut s list)) list.to))
          ≡ and_then (checked x (checked (unless b 20 v.from) (checked y (value ds)))) (λ ds. value (value_for asked ds))
      go passed true k passed a =
          ap value (value_same (tags_in (cut s list)) [] asked (length s) (take v.to s) list.to ds e k a)
      go passed true k (refused n q) a = refl
      go passed false k y a = refl
      go (refused n q) b k y a = refl

pub read_onward : (s : List ℕ) (asked : ℕ) → and_then (element s 0 group_tag) (λ v. behind_file s asked v) ≡ read_detail s asked
unfolding read_detail read_details and_then
read_onward s asked = file (element s 0 group_tag)
  where
    list_of : (v : Stretch) (m : Read Stretch)
        → and_then m (λ list. behind_list s asked v list)
        ≡ and_then (and_then m (λ list. and_then (details (take v.to s) list.to) (λ ds. checked (end_check s v.to)
        (checked (unless (is_list (cut s list)) 20 v.from)
        (checked (agrees (length s) (tags_in (cut s list)) ds) (value ds))))))
        (λ ds. value (value_for asked ds))
    list_of v (value list) = listed s asked v list (details (take v.to s) list.to) refl
    list_of v (refusal n p) = refl

    file : (m : Read Stretch)
        → and_then m (λ v. behind_file s asked v)
        ≡ and_then (and_then m (λ v. and_then (element (take v.to s) v.from tag_list) (λ list.
        and_then (details (take v.to s) list.to) (λ ds. checked (end_check s v.to)
        (checked (unless (is_list (cut s list)) 20 v.from)
        (checked (agrees (length s) (tags_in (cut s list)) ds) (value ds)))))))
        (λ ds. value (value_for asked ds))
    file (value v) = list_of v (element (take v.to s) v.from tag_list)
    file (refusal n p) = refl

-- Where elements are read and agree with their list, their encodings stand.
use Prim.Native.Nat.{ℕ, ◌<◌}
use mathlib.Core.Path.{◌≡◌, refl, ap, ◌∙◌}
use mathlib.Core.Bool.{Bool, true, false, cond}
use mathlib.Core.List.{List, [], ◌∷◌, ◌++◌}
use borrow.Author.Tests.{eqb-true}
use lib.Dec.{eqb}
use lib.ListN.{drop, get_or, drop_of_length-le}
use Rattle.refusal.specs.Numbers.{by}
use Rattle.refusal.specs.Outcome.{passed, refused}
use Rattle.refusal.proofs.Outcomes.{refused_not_passed}
use Rattle.tlv.specs.declared.Stretch.{Stretch}
use Rattle.tlv.specs.Read.{value}
use Rattle.tlv.specs.Element.{tlv, element}
use Rattle.tlv.specs.Cut.{cut}
use Rattle.tlv.proofs.Joined.{kept_value}
use Rattle.tlv.proofs.Encoded.{reads}
use Rattle.details.specs.Tags.{stands_for, tag_here, is_detail}
use Rattle.details.specs.Details.{Detail, detail_at, details, are_named, agrees}
use Rattle.details.proofs.SideBySide.{walk_cases}
use Rattle.detail_theorems.specs.Named.{Named, tags_of, element_octets, elements_octets}
use Rattle.detail_theorems.proofs.ListOctets.{named_parts}

-- elements by the tags that name them, from a place to the end
pub record Elements (ts : List ℕ) (s : List ℕ) (at : ℕ) : Type 0 where
  pub elements : List Named
  pub same_tags : tags_of elements ≡ ts
  pub octets_there : drop at s ≡ elements_octets elements

-- where one is read, its encoding stands
element_there : (s : List ℕ) → ((i : ℕ) → get_or s i 0 < 256) → (at : ℕ) (v : Stretch) → detail_at s at ≡ value v
    → drop at s ≡ tlv (tag_here s at) (cut s v) ++ drop v.to s
unfolding detail_at cut
element_there s small at v e =
    (reads s at (tag_here s at) small v (kept_value (is_detail s at) (element s at (tag_here s at)) _ at v e).1).octets_there

module _ (end : ℕ) (s : List ℕ) (small : (i : ℕ) → get_or s i 0 < 256) where
  pub elements_there : (ts before : List ℕ) (at : ℕ) (ds : List Detail) → details s at ≡ value ds
      → are_named before ts ≡ true → agrees end ts ds ≡ passed → Elements ts s at
  unfolding agrees elements_octets element_octets
  elements_there [] before at ds e n k = walk_cases s at ds e
      (λ h z. record { elements = []; same_tags = refl; octets_there = drop_of_length-le s h })
      (λ v rest h d r z. absurd (refused_not_passed (rw z at k)))
  elements_there (t ∷ ts) before at ds e n k = walk_cases s at ds e
      (λ h z. absurd (refused_not_passed (rw z at k)))
      (λ v rest h d r z. go v rest d (eqb (tag_here s at) (stands_for t)) refl (rw z at k)
      (λ j. elements_there ts (t ∷ before) v.to rest r (named_parts t before ts n).1 j))
    where
      go : (v : Stretch) (rest : List Detail) → detail_at s at ≡ value v
          → (b : Bool) → eqb (tag_here s at) (stands_for t) ≡ b
          → cond (eqb (tag_here s at) (stands_for t)) (agrees end ts rest) (refused (by 20) at) ≡ passed
          → (agrees end ts rest ≡ passed → Elements ts s v.to)
          → Elements (t ∷ ts) s at
      go v rest d true q f ih =
          let more = ih (rw q at f) in
          let same = eqb-true (tag_here s at) (stands_for t) q in record {
            elements = record { tag = t; content = cut s v } ∷ more.elements;
            same_tags = ap (λ (l : List ℕ). t ∷ l) more.same_tags;
            octets_there = element_there s small at v d
                ∙ (ap (λ (x : ℕ). tlv x (cut s v) ++ drop v.to s) same
                ∙ ap (λ (l : List ℕ). tlv (stands_for t) (cut s v) ++ l) more.octets_there);
          }
      go v rest d false q f ih = absurd (refused_not_passed (rw q at f))

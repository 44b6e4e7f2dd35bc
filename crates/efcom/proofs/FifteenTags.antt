-- A tag list of known tags without a repeat has no more than fifteen: so many tags are a group's.
use Prim.Native.Nat.{ℕ, suc, ◌-◌, ◌≤◌}
use mathlib.Core.Path.{◌≡◌, refl}
use mathlib.Core.Bool.{Bool, true, false, cond, not, ◌&&◌, ◌||◌, false≢true}
use mathlib.Core.List.{List, [], ◌∷◌}
use native.Mathlib.Omega.{arith}
use borrow.Author.Tests.{leb-true}
use lib.Dec.{eqb, leb}
use lib.ListN.{length}
use Rattle.lent.specs.Octets.{stands}
use Rattle.lent.proofs.Bools.{and_both}
use Rattle.lent.proofs.Left.{left, left_fewer, count_from, stands_counted}
use Rattle.refusal.specs.Numbers.{by}
use Rattle.refusal.specs.Outcome.{passed, refused}
use Rattle.refusal.proofs.Outcomes.{refused_not_passed}
use Rattle.tlv.specs.Tags.{group_of, is_group}
use Rattle.efcom.specs.EfCom.{known_from, once_from}

-- the tags that are a group's
unfoldable group_tags : List ℕ
group_tags = 0x61 ∷ 0x75 ∷ 0x63 ∷ 0x76 ∷ 0x65 ∷ count_from 10 0x67

group_tag_lem : (c : ℕ) → is_group c ≡ true → stands c group_tags ≡ true
unfolding is_group group_of group_tags stands
group_tag_lem c e = go (eqb c 0x61) (eqb c 0x75) (eqb c 0x63) (eqb c 0x76) (eqb c 0x65) (leb 0x67 c && leb c 0x70) refl e
  where
    go : (p q r s t u : Bool) → leb 0x67 c && leb c 0x70 ≡ u
        → not (eqb (cond p 1 (cond q 2 (cond r 3 (cond s 4 (cond t 5 (cond u (c - 0x60) 0)))))) 0) ≡ true
        → p || (q || (r || (s || (t || stands c (count_from 10 0x67))))) ≡ true
    go true q r s t u k h = refl
    go false true r s t u k h = refl
    go false false true s t u k h = refl
    go false false false true t u k h = refl
    go false false false false true u k h = refl
    go false false false false false true k h =
        let both = and_both (leb 0x67 c) (leb c 0x70) k in
        stands_counted 10 0x67 c (leb-true 0x67 c both.0) (omega (arith, leb-true c 0x70 both.1))
    go false false false false false false k h = absurd (false≢true h)

-- each takes one of them
tags_left : (p q : ℕ) (tags before : List ℕ) → known_from p tags ≡ passed → once_from q before tags ≡ passed
    → length tags ≤ left group_tags before
unfolding known_from once_from
tags_left p q [] before k o = omega arith
tags_left p q (c ∷ t) before k o = go (is_group c) refl (stands c before) refl k o (tags_left (suc p) (suc q) t (c ∷ before))
  where
    go : (a : Bool) → is_group c ≡ a → (b : Bool) → stands c before ≡ b
        → cond a (known_from (suc p) t) (refused (by 11) p) ≡ passed
        → cond b (refused (by 11) q) (once_from (suc q) (c ∷ before) t) ≡ passed
        → (known_from (suc p) t ≡ passed → once_from (suc q) (c ∷ before) t ≡ passed → length t ≤ left group_tags (c ∷ before))
        → suc (length t) ≤ left group_tags before
    go true g false s k o rest = omega (arith, rest k o, left_fewer group_tags before c (group_tag_lem c g) s)
    go true g true s k o rest = absurd (refused_not_passed o)
    go false g b s k o rest = absurd (refused_not_passed k)

pub fifteen_tags : (p q : ℕ) (tags : List ℕ) → known_from p tags ≡ passed → once_from q [] tags ≡ passed → length tags ≤ 15
unfolding group_tags count_from left stands
fifteen_tags p q tags k o = tags_left p q tags [] k o

-- Each arm is a tag of the paper's row.
-- what is in no row of 67 to 70 is not between them
use Prim.Native.Nat.{ℕ}
use mathlib.Core.Path.{◌≡◌, refl}
use mathlib.Core.Bool.{Bool, true, false, ◌&&◌}
use native.Mathlib.Omega.{arith}
use borrow.Author.Rules.{rules}
use borrow.Author.Tests.{leb-true, ne_eqb}
use lib.Dec.{leb}
use Rattle.lent.proofs.Absent.{Absent, past}
use Rattle.lent.proofs.Bools.{and_both}
use Rattle.tlv.specs.Tags.{group_of}
use Rattle.tlv.proofs.tags.group_of.Goals as goal

none_between : (before : Type 0) (tag : ℕ) → Absent before 10 0x67 tag → leb 0x67 tag && leb tag 0x70 ≡ false
none_between before tag a = go (leb 0x67 tag && leb tag 0x70) refl
  where
    go : (x : Bool) → leb 0x67 tag && leb tag 0x70 ≡ x → x ≡ false
    go false q = refl
    go true q =
        let both = and_both (leb 0x67 tag) (leb tag 0x70) q in
        let over = past before 10 0x67 tag a (leb-true 0x67 tag both.0) in
        absurd (omega (arith, over, leb-true tag 0x70 both.1))

pub returns-in_default : goal.returns-in_default
unfolding group_of Absent
returns-in_default c = (
  simp (
    ne_eqb _ _ c.in_default.in_default-own.rest.0.0.0.0.0.0.0.0.0.0.0.0.0.0.1,
    ne_eqb _ _ c.in_default.in_default-own.rest.0.0.0.0.0.0.0.0.0.0.0.0.0.1,
    ne_eqb _ _ c.in_default.in_default-own.rest.0.0.0.0.0.0.0.0.0.0.0.0.1,
    ne_eqb _ _ c.in_default.in_default-own.rest.0.0.0.0.0.0.0.0.0.0.0.1,
    ne_eqb _ _ c.in_default.in_default-own.rest.0.0.0.0.0.0.0.0.0.0.1,
    none_between _ c.args.tag c.in_default.in_default-own.rest,
  ),
  search rules,
)

pub returns-in-97 : goal.returns-in-97
unfolding group_of
returns-in-97 c = (simp c.in-97.is, search rules)

pub returns-in-117 : goal.returns-in-117
unfolding group_of
returns-in-117 c = (simp c.in-117.is, search rules)

pub returns-in-99 : goal.returns-in-99
unfolding group_of
returns-in-99 c = (simp c.in-99.is, search rules)

pub returns-in-118 : goal.returns-in-118
unfolding group_of
returns-in-118 c = (simp c.in-118.is, search rules)

pub returns-in-101 : goal.returns-in-101
unfolding group_of
returns-in-101 c = (simp c.in-101.is, search rules)

pub returns-in-103 : goal.returns-in-103
unfolding group_of
returns-in-103 c = (simp c.in-103.is, search rules)

pub returns-in-104 : goal.returns-in-104
unfolding group_of
returns-in-104 c = (simp c.in-104.is, search rules)

pub returns-in-105 : goal.returns-in-105
unfolding group_of
returns-in-105 c = (simp c.in-105.is, search rules)

pub returns-in-106 : goal.returns-in-106
unfolding group_of
returns-in-106 c = (simp c.in-106.is, search rules)

pub returns-in-107 : goal.returns-in-107
unfolding group_of
returns-in-107 c = (simp c.in-107.is, search rules)

pub returns-in-108 : goal.returns-in-108
unfolding group_of
returns-in-108 c = (simp c.in-108.is, search rules)

pub returns-in-109 : goal.returns-in-109
unfolding group_of
returns-in-109 c = (simp c.in-109.is, search rules)

pub returns-in-110 : goal.returns-in-110
unfolding group_of
returns-in-110 c = (simp c.in-110.is, search rules)

pub returns-in-111 : goal.returns-in-111
unfolding group_of
returns-in-111 c = (simp c.in-111.is, search rules)

pub returns-in-112 : goal.returns-in-112
unfolding group_of
returns-in-112 c = (simp c.in-112.is, search rules)

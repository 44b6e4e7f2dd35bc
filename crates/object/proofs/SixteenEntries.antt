-- Entries whose numbers are within 1 to 16 and differ are no more than sixteen.
use Prim.Native.Nat.{ℕ, suc, ◌≤◌}
use mathlib.Core.Path.{◌≡◌, refl}
use mathlib.Core.Bool.{Bool, true, false, cond}
use mathlib.Core.List.{List, [], ◌∷◌}
use native.Mathlib.Omega.{arith}
use lib.ListN.{length}
use Rattle.lent.specs.Octets.{stands}
use Rattle.lent.proofs.Left.{left, left_fewer, count_from, stands_counted}
use Rattle.refusal.specs.Numbers.{by}
use Rattle.refusal.specs.Outcome.{passed, refused}
use Rattle.refusal.proofs.Outcomes.{refused_not_passed}
use Rattle.tlv.specs.Read.{value}
use Rattle.object.specs.Object.{GroupHash, entries, numbers_once}
use Rattle.object.proofs.EntriesByTable.{AllSound, all_sound}

-- their numbers are within 1 to 16
unfoldable pub Numbered : List GroupHash → Type 0
Numbered [] = Unit {0}
Numbered (e ∷ es) = ((1 ≤ e.group) × (e.group ≤ 16)) × Numbered es

-- each takes one of these numbers
entries_left : (es : List GroupHash) (before : List ℕ) → Numbered es → numbers_once before es ≡ passed
    → length es ≤ left (count_from 16 1) before
unfolding Numbered numbers_once
entries_left [] before n o = omega arith
entries_left (e ∷ es) before n o = go (stands e.group before) refl o (entries_left es (e.group ∷ before) n.1)
  where
    go : (b : Bool) → stands e.group before ≡ b
        → cond b (refused (by 12) e.place) (numbers_once (e.group ∷ before) es) ≡ passed
        → (numbers_once (e.group ∷ before) es ≡ passed → length es ≤ left (count_from 16 1) (e.group ∷ before))
        → suc (length es) ≤ left (count_from 16 1) before
    go true s o rest = absurd (refused_not_passed o)
    go false s o rest =
        let within = stands_counted 16 1 e.group n.0.0 (omega (arith, n.0.1)) in
        omega (arith, rest o, left_fewer (count_from 16 1) before e.group within s)

pub sixteen_entries : (es : List GroupHash) → Numbered es → numbers_once [] es ≡ passed → length es ≤ 16
unfolding count_from left stands
sixteen_entries es n o = entries_left es [] n o

-- ---- entries that were read

sound_numbered : (es : List GroupHash) → AllSound es → Numbered es
unfolding AllSound Numbered
sound_numbered [] s = tt
sound_numbered (e ∷ es) s = (s.0.numbered, sound_numbered es s.1)

pub sixteen_read : (s : List ℕ) (at : ℕ) (es : List GroupHash) → entries s at ≡ value es → numbers_once [] es ≡ passed
    → length es ≤ 16
unfolding entries
sixteen_read s at es e o = sixteen_entries es (sound_numbered es (all_sound (suc (length s)) s at es e)) o

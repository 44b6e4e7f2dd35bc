-- What the C calls on the store's nightly list promise, with the lines of their `ensures` (lamphudet, src/lib.rt), as in
-- `Promised`.
use Rattle.std.specs.Prelude.{ℕ, zero, suc, ◌+◌, ◌≤◌, ◌<◌, ◌≡◌, List, [], ◌++◌, take, drop}
use Rattle.zone.specs.Octets.{AreOctets}
use Rattle.nightly.specs.List.{look_over, house_stretch}
use Rattle.border.specs.declared.received.AnswerInC.{AnswerInC}
use Rattle.border.specs.declared.received.StretchInC.{StretchInC}
use Rattle.border.specs.Calls.{stretch_in_c, count_in_c}

-- `lamphudet_look_over`
pub record LooksOver (w : List ℕ) (r : AnswerInC) : Type 0 where
  pub answers : r ≡ count_in_c (look_over w)
  pub octets : AreOctets w

-- `lamphudet_house_entries`
pub record FindsEntries (w : List ℕ) (house : ℕ) (r : StretchInC) : Type 0 where
  pub answers : r ≡ stretch_in_c (house_stretch w house)
  pub octets : AreOctets w

-- the octets of a stretch, and that the one at a place is among them
abbrev pub octets_in : List ℕ → StretchInC → List ℕ
octets_in w r = take r.length (drop r.start w)

abbrev pub Among : ℕ → StretchInC → Type 0
Among p r = (r.start ≤ p) × (p < r.start + r.length)

-- what was answered for the houses 1 to n, in their order, joined
unfoldable pub answered_to : List ℕ → (ℕ → StretchInC) → (n : ℕ) → List ℕ
answered_to w r zero = []
answered_to w r (suc n) = answered_to w r n ++ octets_in w (r (suc n))

-- What a C host may rely on, of what the calls on a list promise (specs/ListPromised): when a list is accepted and where it is
-- refused; that a house is handed its own entries and nothing else; SEPARATION of the stretches.
use Prim.Native.Nat.{ℕ, zero, suc, ◌+◌, ◌≤◌, ◌<◌}
use mathlib.Core.Path.{◌≡◌, refl, ap, ◌∙◌}
use mathlib.Core.Logic.{◌↔◌}
use mathlib.Core.Bool.{true, false}
use mathlib.Core.List.{List, []}
use native.Mathlib.Omega.{arith}
use lib.ListN.{length}
use Rattle.refusal.specs.Numbers.{Why}
use Rattle.refusal.specs.Calls.{of_list, is_of}
use Rattle.tlv.specs.declared.Stretch.{Stretch}
use Rattle.tlv.specs.Cut.{cut}
use Rattle.entry.specs.Entry.{is_house}
use Rattle.nightly.specs.List.{house_stretch}
use Rattle.border.specs.declared.received.AnswerInC.{AnswerInC}
use Rattle.border.specs.declared.received.StretchInC.{StretchInC}
use Rattle.border.specs.Answer.{refused_in_c}
use Rattle.border.specs.Calls.{stretch_in_c}
use Rattle.run_theorems.specs.Runs.{Line, joined}
use Rattle.run_theorems.specs.Separation.{lines_of}
use Rattle.nightly_theorems.specs.Listed.{InOrder, Fails}
use Rattle.nightly_theorems.specs.Stretches.{Within, stretches_to}
use Rattle.nightly_theorems.proofs.Acceptance.{fails_refused}
use Rattle.nightly_theorems.proofs.Stretches.{cut_exactly}
use Rattle.nightly_theorems.proofs.Separation.{refused_empty, no_line_empty, no_house_empty, stretch_within}
use Rattle.nightly_theorems.proofs.Separation.{stretches_apart, stretches_all}
use Rattle.demands.specs.ListPromised.{LooksOver, FindsEntries, octets_in, Among, answered_to}
use Rattle.demands.proofs.ListInC.{list_zero, octets_counted, list_refused, list_answers}

-- ---- a list looked over

module _ (w : List ℕ) (r : AnswerInC) (call : LooksOver w r) where
  -- 0 and a number: the list is so many entries of houses and sound records, joined, whose keys rise
  pub look_over_exactly : (n : ℕ)
      → ((r.number ≡ 0) × (r.value ≡ n)) ↔ ((ls : List Line) × InOrder ls × (w ≡ joined ls) × (n ≡ length ls))
  look_over_exactly n = rw call.answers (octets_counted w call.octets n)

  pub look_over_refused : (why : Why) (p : ℕ) → Fails w why p → r ≡ refused_in_c why p
  look_over_refused why p h = call.answers ∙ list_refused w call.octets why p h

  pub look_over_answers : (r.number ≡ 0 → ⊥) → (is_of of_list r.number ≡ true) × (r.value < length w)
  look_over_answers = rw call.answers (list_answers w)

-- ---- the entries of a house

-- 0 and 0
abbrev nothing : StretchInC
nothing = record { start = 0; length = 0 }

empty_in_c : (v : Stretch) → v ≡ record { from = 0; to = 0 } → stretch_in_c v ≡ nothing
unfolding stretch_in_c
empty_in_c v e = rw e

module _ (w : List ℕ) (house : ℕ) (r : StretchInC) (call : FindsEntries w house r) where
  octets_cut : octets_in w r ≡ cut w (house_stretch w house)
  unfolding stretch_in_c cut
  octets_cut = rw call.answers

  -- "all of them, no other house's"
  pub house_entries_own : (ls : List Line) → InOrder ls → w ≡ joined ls → octets_in w r ≡ joined (lines_of house ls)
  house_entries_own ls o e = octets_cut ∙ (ap (λ (x : List ℕ). cut x (house_stretch x house)) e ∙ cut_exactly ls o house)

  -- "empty where it has none or the list is refused"
  pub house_entries_none : (ls : List Line) → InOrder ls → w ≡ joined ls → lines_of house ls ≡ []
      → r ≡ record { start = 0; length = 0 }
  house_entries_none ls o e none =
      call.answers
      ∙ empty_in_c (house_stretch w house) (ap (λ (x : List ℕ). house_stretch x house) e ∙ no_line_empty ls o house none)

  pub house_entries_refused : (why : Why) (p : ℕ) → Fails w why p → r ≡ record { start = 0; length = 0 }
  house_entries_refused why p h =
      call.answers
      ∙ empty_in_c (house_stretch w house) (refused_empty w why p house (fails_refused w call.octets why p h))

  pub house_entries_no_house : is_house house ≡ false → r ≡ record { start = 0; length = 0 }
  house_entries_no_house h =
      call.answers ∙ empty_in_c (house_stretch w house) (no_house_empty w call.octets house h)

  -- it ends no further than the list
  pub house_entries_within : r.start + r.length ≤ length w
  unfolding stretch_in_c
  house_entries_within =
      let a = ap (λ (x : StretchInC). x.start) call.answers in
      let b = ap (λ (x : StretchInC). x.length) call.answers in
      let within = stretch_within w call.octets house in
      omega (arith, a, b, within.0, within.1)

  among_within : (p : ℕ) → Among p r → Within p (house_stretch w house)
  unfolding stretch_in_c
  among_within p h =
      let a = ap (λ (x : StretchInC). x.start) call.answers in
      let b = ap (λ (x : StretchInC). x.length) call.answers in
      (omega (arith, h.0, a), omega (arith, h.0, h.1, a, b))

-- ---- SEPARATION

-- the stretches of two different houses have no octet in common
pub house_entries_apart : (w : List ℕ) (h k : ℕ) (r q : StretchInC) → FindsEntries w h r → FindsEntries w k q → (h ≡ k → ⊥)
    → (p : ℕ) → Among p r → Among p q → ⊥
house_entries_apart w h k r q x y other p a b =
    stretches_apart w x.octets h k other p (among_within w h r x p a) (among_within w k q y p b)

answered_same : (w : List ℕ) (r : ℕ → StretchInC) → ((h : ℕ) → FindsEntries w h (r h)) → (n : ℕ)
    → answered_to w r n ≡ stretches_to w n
unfolding answered_to stretches_to
answered_same w r calls zero = refl
answered_same w r calls (suc n) = rw (answered_same w r calls n, octets_cut w (suc n) (r (suc n)) (calls (suc n)))

-- and those of all houses, in their order, are the list
pub house_entries_all : (w : List ℕ) (a : AnswerInC) → LooksOver w a → a.number ≡ 0 → (r : ℕ → StretchInC)
    → ((h : ℕ) → FindsEntries w h (r h)) → answered_to w r 32767 ≡ w
house_entries_all w a looks accepted r calls =
    let n = (list_zero w a.value).0 (rw (← looks.answers) (accepted, refl)) in
    answered_same w r calls 32767 ∙ stretches_all w looks.octets a.value n

-- The number that is told where what was read is entered, of a reader that tells neither 0, 16 nor 17 and whose accepted records
-- are sound: these are then each told in one case alone, and 0 with the entry in the range.
use Prim.Native.Nat.{ℕ, ◌≤◌, ◌<◌}
use mathlib.Core.Path.{◌≡◌, refl, ap, sym, ◌∙◌}
use mathlib.Core.Logic.{◌↔◌}
use mathlib.Core.Bool.{Bool, true, false, cond, ◌&&◌}
use mathlib.Core.List.{List, ◌++◌}
use native.Mathlib.Omega.{arith}
use borrow.Author.Tests.{le-leb, leb-true, leb-false, lt-leb}
use lib.Dec.{leb}
use lib.ListN.{length, drop}
use Rattle.refusal.specs.Numbers.{Why, by}
use Rattle.refusal.specs.Calls.{is_of, tells}
use Rattle.refusal.specs.Outcome.{Outcome, passed, refused, unless}
use Rattle.refusal.specs.Output.{write_answer}
use Rattle.refusal.specs.Length as told
use Rattle.refusal.proofs.Outcomes.{refused_not_written}
use Rattle.refusal.proofs.Calls.{never_told}
use Rattle.refusal.proofs.Each.{Each}
use Rattle.zone.specs.declared.record.Record.{Record}
use Rattle.sound.specs.Sound.{is_sound}
use Rattle.sound.proofs.SoundRecord.{taken_apart}
use Rattle.entry.specs.Entry.{entry_of, size, is_house}
use Rattle.entry.specs.Entered.{entered_answer, entered_out}
use Rattle.entry.proofs.Values.{length_entry}
use Rattle.entry.proofs.Entered.{Enters, entered}
use Rattle.run_theorems.specs.Entered.{Allowed, Leaves}
use Rattle.run_theorems.specs.Expected.{number_told, value_told}

-- 17 comes before 16
abbrev number_in_turn : (housed room : Bool) → ℕ
number_in_turn housed room = cond housed (cond room 0 16) 17

zero_told : (a b : Bool) → number_in_turn a b ≡ 0 → (a ≡ true) × (b ≡ true)
zero_told true true e = (refl, refl)
zero_told true false e = absurd (omega (arith, e))
zero_told false b e = absurd (omega (arith, e))

sixteen_told : (a b : Bool) → number_in_turn a b ≡ 16 → (a ≡ true) × (b ≡ false)
sixteen_told true true e = absurd (omega (arith, e))
sixteen_told true false e = (refl, refl)
sixteen_told false b e = absurd (omega (arith, e))

seventeen_told : (a b : Bool) → number_in_turn a b ≡ 17 → a ≡ false
seventeen_told true true e = absurd (omega (arith, e))
seventeen_told true false e = absurd (omega (arith, e))
seventeen_told false b e = refl

-- what the reader does not tell
abbrev Apart : List ℕ → Type 0
Apart numbers = (is_of numbers 0 ≡ false) × (is_of numbers 16 ≡ false) × (is_of numbers 17 ≡ false)

module _ (house : ℕ) (r : Record) (out : List ℕ) where
  -- the octets of the entry
  abbrev octets : ℕ
  octets = size r

  abbrev answer : Outcome → told.Length
  answer o = entered_answer o house r out

  -- a number that is no reader's is told of what passed
  of_passed : (numbers : List ℕ) (o : Outcome) → Each (λ why p. tells numbers why ≡ true) o → (k : ℕ) → is_of numbers k ≡ false
      → number_told (answer o) ≡ k → o ≡ passed
  unfolding entered_answer
  of_passed numbers passed numbered k other e = refl
  of_passed numbers (refused why p) numbered k other e = absurd (never_told numbers why k (numbered why p refl) other e)

  passed_number : (o : Outcome) → o ≡ passed → is_sound r ≡ true
      → number_told (answer o) ≡ number_in_turn (is_house house) (leb octets (length out))
  unfolding entered_answer
  passed_number o e sound = rw (e, sound) (go (is_house house))
    where
      room : (b : Bool) → number_told (cond b (told.written octets) (told.refused (by 16) 0)) ≡ number_in_turn true b
      room true = refl
      room false = refl

      go : (a : Bool) → number_told (write_answer (unless (a && true) 17 0) octets out)
          ≡ number_in_turn a (leb octets (length out))
      go true = room (leb octets (length out))
      go false = refl

  module _ (numbers : List ℕ) (apart : Apart numbers) (o : Outcome) (numbered : Each (λ why p. tells numbers why ≡ true) o)
      (sound : o ≡ passed → is_sound r ≡ true) where
    told_in_turn : (k : ℕ) → is_of numbers k ≡ false → number_told (answer o) ≡ k
        → (o ≡ passed) × (number_in_turn (is_house house) (leb octets (length out)) ≡ k)
    told_in_turn k other e =
        let read = of_passed numbers o numbered k other e in
        (read, sym (passed_number o read (sound read)) ∙ e)

    -- 0: it passed, the house is one and the range has room
    zero_exactly : (number_told (answer o) ≡ 0) ↔ ((o ≡ passed) × (is_house house ≡ true) × (octets ≤ length out))
    zero_exactly = (
      λ e.
          let t = told_in_turn 0 apart.0 e in
          let k = zero_told (is_house house) (leb octets (length out)) t.1 in
          (t.0, k.0, leb-true octets (length out) k.1),
      λ h. passed_number o h.0 (sound h.0) ∙ rw (h.1, le-leb octets (length out) h.2),
    )

    -- where to pass is to keep some rules
    pub zero_allowed : (Rules : Type 0) → (o ≡ passed) ↔ Rules → (number_told (answer o) ≡ 0) ↔ Allowed Rules house r out
    zero_allowed Rules exactly = (
      λ e. let h = zero_exactly.0 e in record { kept = exactly.0 h.0; housed = h.1; room = h.2 },
      λ a. zero_exactly.1 (exactly.1 a.kept, a.housed, a.room),
    )

    -- 17: it passed, and the house is none
    pub seventeen_exactly : (number_told (answer o) ≡ 17) ↔ ((o ≡ passed) × (is_house house ≡ false))
    seventeen_exactly = (
      λ e.
          let t = told_in_turn 17 apart.2 e in
          (t.0, seventeen_told (is_house house) (leb octets (length out)) t.1),
      λ h. passed_number o h.0 (sound h.0) ∙ rw h.1,
    )

    -- 16: it passed, the house is one, and the range has no room
    pub sixteen_exactly : (number_told (answer o) ≡ 16) ↔ ((o ≡ passed) × (is_house house ≡ true) × (length out < octets))
    sixteen_exactly = (
      λ e.
          let t = told_in_turn 16 apart.1 e in
          let k = sixteen_told (is_house house) (leb octets (length out)) t.1 in
          (t.0, k.0, leb-false octets (length out) k.1),
      λ h. passed_number o h.0 (sound h.0) ∙ rw (h.1, lt-leb octets (length out) h.2),
    )

    -- so it is entered
    pub zero_enters : number_told (answer o) ≡ 0 → Enters o house r out
    zero_enters e =
        let h = zero_exactly.0 e in
        record { read = h.0; housed = h.1; sound = sound h.0; room = h.2 }

    -- with 0 the entry stands in front of the range
    pub zero_leaves : number_told (answer o) ≡ 0
        → Leaves (entry_of house r) out (value_told (answer o)) (entered_out o house r out)
    zero_leaves e =
        let h = zero_enters e in
        let long = length_entry r (taken_apart r h.sound) house in
        let w = entered house r out o h in
        record {
          told = ap value_told w.0 ∙ sym long;
          in_front = w.1 ∙ ap (λ (n : ℕ). entry_of house r ++ drop n out) (sym long);
        }

    -- and 0 is no refusal
    pub zero_no_refusal : (why : Why) (p : ℕ) → answer o ≡ told.refused why p → number_told (answer o) ≡ 0 → ⊥
    zero_no_refusal why p denied e = refused_not_written (sym denied ∙ (entered house r out o (zero_enters e)).0)

-- What a C host may rely on of `lamphudet_next_entry`: 0 and 0 exactly when none is left; 0 and another offset is further on; and
-- a refusal is not 0.
use Prim.Native.Nat.{ℕ, ◌<◌}
use mathlib.Core.Path.{◌≡◌, refl, ap, ◌∙◌}
use mathlib.Core.Logic.{◌↔◌}
use mathlib.Core.List.{List}
use native.Mathlib.Omega.{arith}
use lib.ListN.{length}
use Rattle.refusal.specs.Numbers.{Why, by}
use Rattle.runs.specs.Run.{Onward, next, none, refused, read_entry}
use Rattle.border.specs.declared.received.AnswerInC.{AnswerInC}
use Rattle.border.specs.Calls.{next_in_c}
use Rattle.run_theorems.proofs.ListReadBack.{end_read}
use Rattle.runs.proofs.Onward.{none_end, next_behind, refused_here}

module _ (w : List ℕ) (at : ℕ) where
  abbrev in_next : AnswerInC
  in_next = next_in_c (read_entry w at).onward

  pub next_not_zero : (why : Why) (p : ℕ) → (read_entry w at).onward ≡ refused why p → in_next.number ≡ 0 → ⊥
  unfolding next_in_c
  next_not_zero why p e zero =
      let here : (read_entry w at).onward ≡ refused (by 18) at = e ∙ (refused_here w at why p e).0 in
      let eighteen : in_next.number ≡ 18 = ap (λ (o : Onward). (next_in_c o).number) here in
      omega (arith, eighteen, zero)

  pub none_left : ((in_next.number ≡ 0) × (in_next.value ≡ 0)) ↔ (at ≡ length w)
  unfolding next_in_c
  none_left = (λ h. go (read_entry w at).onward refl h.0 h.1, λ e. rw (end_read w at e) (refl, refl))
    where
      go : (o : Onward) → (read_entry w at).onward ≡ o → in_next.number ≡ 0 → in_next.value ≡ 0 → at ≡ length w
      go none e a b = none_end w at e
      go (refused why p) e a b = absurd (next_not_zero why p e a)
      go (next n) e a b =
          let further = next_behind w at n e in
          let offset : in_next.value ≡ n = ap (λ (o : Onward). (next_in_c o).value) e in
          absurd (omega (arith, further, offset, b))

  -- 0 and another offset than 0 is where the reader goes on
  pub next_told : (n : ℕ) → (n ≡ 0 → ⊥)
      → ((in_next.number ≡ 0) × (in_next.value ≡ n)) ↔ ((read_entry w at).onward ≡ next n)
  unfolding next_in_c
  next_told n some = (λ h. go (read_entry w at).onward refl h.0 h.1, λ e. rw e (refl, refl))
    where
      go : (o : Onward) → (read_entry w at).onward ≡ o → in_next.number ≡ 0 → in_next.value ≡ n
          → (read_entry w at).onward ≡ next n
      go none e a b = absurd (some (rw b at (ap (λ (o : Onward). (next_in_c o).value) e)))
      go (refused why p) e a b = absurd (next_not_zero why p e a)
      go (next m) e a b =
          let offset : in_next.value ≡ m = ap (λ (o : Onward). (next_in_c o).value) e in
          let same : m ≡ n = omega (arith, offset, b) in
          e ∙ ap next same

  pub next_further : in_next.number ≡ 0 → (in_next.value ≡ 0 → ⊥) → at < in_next.value
  unfolding next_in_c
  next_further a some = go (read_entry w at).onward refl
    where
      go : (o : Onward) → (read_entry w at).onward ≡ o → at < in_next.value
      go none e = absurd (some (ap (λ (o : Onward). (next_in_c o).value) e))
      go (refused why p) e = absurd (next_not_zero why p e a)
      go (next n) e =
          let offset : in_next.value ≡ n = ap (λ (o : Onward). (next_in_c o).value) e in
          omega (arith, next_behind w at n e, offset)

-- DEMAND 1: which length each answer of `lamphudet_read_seal` gives, and what C receives of it, as of every other call that
-- writes (demands, proofs/Given).
use Prim.Native.Nat.{ℕ}
use mathlib.Core.Path.{◌≡◌}
use mathlib.Core.List.{List}
use Rattle.refusal.specs.Numbers.{Why}
use Rattle.refusal.specs.Length.{Length, refused}
use Rattle.entry.specs.Entered.{entered_answer}
use Rattle.seal.specs.Seal.{read_seal}
use Rattle.lamphudet_seals.specs.Answer.{read_seal_in_c}
use Rattle.demands.specs.Given.{length_given, Gives}
use Rattle.demands.proofs.Given.{gives_told}
use Rattle.seal_theorems.proofs.NumbersInC.{seal_number, seal_value, read_seal_not_zero}

module _ (house : ℕ) (s out : List ℕ) where
  abbrev answer : Length
  answer = entered_answer (read_seal s).outcome house (read_seal s).kept out

  pub read_seal_gives : Gives (λ p. (why : Why) × (answer ≡ refused why p)) (length_given answer)
      (read_seal_in_c house s out).number (read_seal_in_c house s out).value
  read_seal_gives = gives_told answer (read_seal_in_c house s out).number (read_seal_in_c house s out).value
      (seal_number house s out) (seal_value house s out) (read_seal_not_zero house s out)

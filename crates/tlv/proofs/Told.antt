-- What was answered is told by what the papers say of it: `read_of` gives one reading to no two answers.
use Rattle.std.specs.Prelude.{Result, Ok, Err}
use mathlib.Core.Path.{◌≡◌, ap, sym}
use Rattle.refusal.specs.declared.Refusal.{Refusal}
use Rattle.refusal.proofs.Numbers.{refused_tells}
use Rattle.std.specs.Result.{IsErrAnd}
use Rattle.std.proofs.lemmas.Result.{err_from_is_err_and}
use Rattle.refusal.specs.Numbers.{why_of}
use Rattle.tlv.specs.Read.{refusal, outcome_in, read_of}
use Rattle.tlv.proofs.Joined.{same_value, never_value}

pub read_tells : {A : Type 0} (r s : Result A Refusal) → read_of r ≡ read_of s → r ≡ s
unfolding outcome_in
read_tells (Ok v) (Ok u) e = ap Ok (same_value e)
read_tells (Ok v) (Err s) e = absurd (never_value _ _ v (sym e))
read_tells (Err r) (Ok u) e = absurd (never_value _ _ u e)
read_tells (Err r) (Err s) e = ap Err (refused_tells r s (ap outcome_in e))

-- what the exit of a `?` answers: the refusal of the step
pub exit_read : {A : Type 0} (e : Refusal) (r : Result A Refusal) → IsErrAnd r (λ y. y ≡ e)
    → read_of r ≡ refusal (why_of e.cause) e.place
exit_read e r h = let p = err_from_is_err_and r h in rw (p.1, p.2)

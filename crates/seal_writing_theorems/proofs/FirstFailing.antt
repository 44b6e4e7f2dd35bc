-- A refusal is the first failing check.
use Prim.Native.Nat.{ℕ}
use mathlib.Core.Path.{◌≡◌, refl, sym, ◌∙◌}
use mathlib.Core.Logic.{◌↔◌}
use mathlib.Core.Bool.{Bool, true, false, cond, ◌&&◌}
use mathlib.Core.List.{List, ◌++◌}
use lib.Dec.{leb}
use lib.ListN.{length}
use Rattle.refusal.specs.Numbers.{Why, by}
use Rattle.refusal.specs.Outcome.{Outcome, passed, refused, or_else, unless}
use Rattle.refusal.specs.Length as told
use Rattle.refusal.specs.Output.{write_answer}
use Rattle.refusal.proofs.Outcomes.{or_else_assoc, or_else_passed, refused_not_written}
use Rattle.zone.specs.declared.record.Record.{Record}
use Rattle.text_theorems.specs.Ordered.{FirstFailing}
use Rattle.text_theorems.proofs.FirstOf.{never, first_of, first_failing, failing_first}
use Rattle.seal_header.specs.declared.header.Header.{Header}
use Rattle.seal_writing.specs.Carried.{is_emergency, is_referred, is_carried}
use Rattle.seal_writing.specs.Seal.{seal_octets, is_fit, seal_check, seal_answer}
use Rattle.seal_writing_theorems.specs.WriteChecks.{header_checks, size_checks, record_checks}

-- a rule of two is the one and then the other
unless_both : (a b : Bool) (n p : ℕ) → unless (a && b) n p ≡ or_else (unless a n p) (unless b n p)
unless_both true b n p = refl
unless_both false b n p = refl

-- the checks before, and then 16
told_so : (o : Outcome) (n : ℕ) (out : List ℕ) (why : Why) (p : ℕ)
    → (write_answer o n out ≡ told.refused why p) ↔ (or_else o (unless (leb n (length out)) 16 0) ≡ refused why p)
told_so (refused m q) n out why p =
    (λ e. let a : m ≡ why = cc in let b : q ≡ p = cc in rw (a, b), λ e. let a : m ≡ why = cc in let b : q ≡ p = cc in rw (a, b))
told_so passed n out why p = go (leb n (length out))
  where
    go : (b : Bool)
        → (cond b (told.written n) (told.refused (by 16) 0) ≡ told.refused why p) ↔ (unless b 16 0 ≡ refused why p)
    go true = (λ e. absurd (refused_not_written (sym e)), λ e. absurd (never why p e))
    go false = (
      λ e. let a : by 16 ≡ why = cc in let b : 0 ≡ p = cc in rw (a, b),
      λ e. let a : by 16 ≡ why = cc in let b : 0 ≡ p = cc in rw (a, b),
    )

module _ (h : Header) (r : Record) (g out : List ℕ) where
  all_checks : List Outcome
  all_checks = record_checks r ++ (header_checks h ++ size_checks h r g out)

  rows_decide : first_of all_checks ≡ or_else (seal_check h r g) (unless (leb (length (seal_octets h r g)) (length out)) 16 0)
  unfolding all_checks first_of record_checks header_checks size_checks seal_check is_fit is_carried is_emergency is_referred
  rows_decide = simp (unless_both, or_else_assoc, or_else_passed)

  pub write_refused_exactly : (why : Why) (p : ℕ)
      → (seal_answer h r g out ≡ told.refused why p)
      ↔ FirstFailing (record_checks r ++ (header_checks h ++ size_checks h r g out)) why p
  unfolding all_checks seal_answer
  write_refused_exactly why p =
      let so = told_so (seal_check h r g) (length (seal_octets h r g)) out why p in (
        λ e. first_failing all_checks why p (rows_decide ∙ so.0 e),
        λ e. so.1 (sym rows_decide ∙ failing_first all_checks why p e),
      )

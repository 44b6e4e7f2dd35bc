-- What every answer of a call that writes and reads nothing but an entry has: a length, or a refusal that is neither 0 nor 9.
use Prim.Native.Nat.{ℕ}
use mathlib.Core.Path.{◌≡◌}
use mathlib.Core.List.{List}
use native.Mathlib.Omega.{arith}
use lib.Dec.{leb}
use lib.ListN.{length}
use Rattle.lent.proofs.Bools.{either_way}
use Rattle.refusal.specs.Numbers.{by}
use Rattle.refusal.specs.Outcome.{unless}
use Rattle.refusal.specs.Length.{Length, written, refused}
use Rattle.refusal.proofs.Each.{each_unless}
use Rattle.refusal.proofs.Output.{write_each}
use Rattle.zone.specs.declared.record.Record.{Record}
use Rattle.zone.specs.Form.{total}
use Rattle.sound.specs.Sound.{is_sound}
use Rattle.digest.specs.Answer.{digest_answer}
use Rattle.writing.specs.Answer.{text_answer}
use Rattle.runs.specs.Run.{read_entry}
use Rattle.as_entry.specs.Written.{is_only, written_answer}

module _ (P : Length → Type 0) (ends : (n : ℕ) → P (written n))
    (denies : (n q : ℕ) → (n ≡ 0 → ⊥) → (n ≡ 9 → ⊥) → P (refused (by n) q)) where
  -- the refusals of the tests before 16, and 16
  short : P (refused (by 16) 0)
  short = denies 16 0 (λ e. omega arith) (λ e. omega arith)

  text_each : (r : Record) (out : List ℕ) → P (text_answer r out)
  unfolding text_answer
  text_each r out =
      write_each P ends short (unless (is_sound r) 17 0)
      (each_unless (λ why p. P (refused why p)) (is_sound r) 17 0 (denies 17 0 (λ e. omega arith) (λ e. omega arith)))
      (total r.form) out

  pub written_each : (e out : List ℕ) → P (written_answer e out)
  unfolding written_answer
  written_each e out =
      either_way P (is_only (read_entry e 0).onward (length e)) _ _ (text_each (read_entry e 0).kept out)
      (denies 18 0 (λ q. omega arith) (λ q. omega arith))

  pub digest_each : (input out : List ℕ) → P (digest_answer input out)
  unfolding digest_answer
  digest_each input out =
      write_each P ends short (unless (leb (length input) 65535) 1 0)
      (each_unless (λ why p. P (refused why p)) (leb (length input) 65535) 1 0 (denies 1 0 (λ q. omega arith) (λ q. omega arith)))
      32 out

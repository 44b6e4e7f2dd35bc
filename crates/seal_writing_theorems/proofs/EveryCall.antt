-- DEMAND 1 of writing a seal: a refusal has one of the call's own numbers and place 0, and changes no octet; a success changes
-- the octets that it reports and no others. And no second answer meets the promise.
use Prim.Native.Nat.{ℕ}
use mathlib.Core.Path.{◌≡◌, refl, sym, ◌∙◌}
use mathlib.Core.Bool.{Bool, true, false, cond, ◌&&◌}
use mathlib.Core.List.{List}
use native.Mathlib.Omega.{arith}
use lib.Dec.{leb}
use lib.ListN.{length}
use Rattle.std.specs.Prelude.{Result}
use Rattle.refusal.specs.declared.Refusal.{Refusal}
use Rattle.refusal.specs.Numbers.{by}
use Rattle.refusal.specs.Calls.{of_seal_writer, of_seal_writer_in_c, is_of}
use Rattle.refusal.specs.Outcome.{unless}
use Rattle.refusal.specs.Length as told
use Rattle.refusal.specs.Output.{Told, Answers}
use Rattle.refusal.proofs.Outcomes.{refused_not_written}
use Rattle.refusal.proofs.Each.{Each, each_else, each_unless}
use Rattle.refusal.proofs.Numbers.{length-tells}
use Rattle.refusal.proofs.Output.{write_answers}
use Rattle.zone.specs.declared.record.Record.{Record}
use Rattle.runs.specs.Run.{read_entry}
use Rattle.as_entry.specs.Written.{is_only}
use Rattle.seal_header.specs.declared.header.Header.{Header}
use Rattle.lamphudet_seals.specs.declared.received.HeaderInC.{HeaderInC}
use Rattle.lamphudet_seals.specs.Given.{header_given, written_answer, written_out}
use Rattle.seal_writing.specs.Carried.{is_carried}
use Rattle.seal_writing.specs.Seal.{seal_octets, is_fit, seal_check, seal_answer, seal_out, WritesSeal}

-- by numbers among which are the writer's own
module _ (numbers : List ℕ) (sixteen : is_of numbers 16 ≡ true) (seventeen : is_of numbers 17 ≡ true)
    (twenty-eight : is_of numbers 28 ≡ true) (h : Header) (r : Record) (g out : List ℕ) where
  each_told : Each (Told numbers 0) (seal_check h r g)
  unfolding seal_check
  each_told =
      let carried = is_carried h && leb (length (seal_octets h r g)) 65535 in
      each_else (Told numbers 0) (unless (is_fit r) 17 0) (unless carried 28 0)
      (each_unless (Told numbers 0) (is_fit r) 17 0 (seventeen, omega arith))
      (each_unless (Told numbers 0) carried 28 0 (twenty-eight, omega arith))

  answers_by : Answers numbers 0 out (seal_answer h r g out) (seal_out h r g out)
  unfolding seal_answer seal_out
  answers_by = write_answers (length (seal_octets h r g)) (seal_octets h r g) out numbers sixteen 0 (seal_check h r g) each_told
      (λ _. refl)

pub seal_answers : (h : Header) (r : Record) (g out : List ℕ)
    → Answers of_seal_writer 0 out (seal_answer h r g out) (seal_out h r g out)
seal_answers h r g out = answers_by of_seal_writer refl refl refl h r g out

-- the same of the call that a C host makes, which may tell 18 too
pub written_answers : (e : List ℕ) (h : HeaderInC) (g out : List ℕ)
    → Answers of_seal_writer_in_c 0 out (written_answer e h g out) (written_out e h g out)
unfolding written_answer written_out
written_answers e h g out = go (is_only (read_entry e 0).onward (length e))
  where
    go : (b : Bool)
        → Answers of_seal_writer_in_c 0 out
        (cond b (seal_answer (header_given h) (read_entry e 0).kept g out) (told.refused (by 18) 0))
        (cond b (seal_out (header_given h) (read_entry e 0).kept g out) out)
    go true = answers_by of_seal_writer_in_c refl refl refl (header_given h) (read_entry e 0).kept g out
    go false = record {
      when_refused = λ why p q. let a : by 18 ≡ why = cc in let b : 0 ≡ p = cc in rw (← a, ← b) ((refl, omega arith), refl);
      when_written = λ n q. absurd (refused_not_written q);
    }

-- no second answer, and no second state of the range
pub only_seal_written : (h : Header) (r : Record) (g out a b : List ℕ) (v w : Result ℕ Refusal) → WritesSeal h r g out a v
    → WritesSeal h r g out b w → (v ≡ w) × (a ≡ b)
only_seal_written h r g out a b v w p q = (length-tells v w (p.answer ∙ sym q.answer), p.output ∙ sym q.output)

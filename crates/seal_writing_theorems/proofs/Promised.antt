-- What a C host may rely on, of what `lamphudet_write_seal` promises (specs/Promised).
use Prim.Native.Nat.{ℕ, ◌≤◌}
use mathlib.Core.Path.{◌≡◌, refl, ap, sym, ◌∙◌}
use mathlib.Core.Bool.{Bool, true, false, cond, false≢true}
use mathlib.Core.List.{List, ◌++◌}
use mathlib.Core.Logic.{◌↔◌}
use lib.ListN.{length, drop}
use Rattle.refusal.specs.Numbers.{by, expecting, no_digit}
use Rattle.refusal.specs.Calls.{of_seal_writer_in_c}
use Rattle.refusal.specs.Length as told
use Rattle.refusal.proofs.Output.{writes, writes_only}
use Rattle.refusal.proofs.Outcomes.{refused_not_written}
use Rattle.run_theorems.specs.EveryCall.{AnswersInC}
use Rattle.run_theorems.specs.Expected.{number_told, value_told}
use Rattle.run_theorems.proofs.EveryCall.{answers_in_c}
use Rattle.runs.specs.Run.{read_entry}
use Rattle.as_entry.specs.Written.{is_only}
use Rattle.border.specs.declared.received.AnswerInC.{AnswerInC}
use Rattle.border.specs.Answer.{in_c}
use Rattle.lamphudet_seals.specs.declared.received.HeaderInC.{HeaderInC}
use Rattle.lamphudet_seals.specs.Given.{header_given, written_answer, written_out, write_seal_in_c}
use Rattle.seal_writing.specs.Seal.{seal_octets, seal_check, seal_answer, seal_out}
use Rattle.seal_writing_theorems.specs.Written.{IsAccepted, Given}
use Rattle.seal_writing_theorems.specs.Promised.{WritesSealInC}
use Rattle.seal_writing_theorems.proofs.RoundTrip.{given_apart, accepted_given}
use Rattle.seal_writing_theorems.proofs.EveryCall.{written_answers}

number_in_c : (l : told.Length) → (in_c l).number ≡ number_told l
unfolding in_c
number_in_c (told.written n) = refl
number_in_c (told.refused why p) = refl

value_in_c : (l : told.Length) → (in_c l).value ≡ value_told l
unfolding in_c
value_in_c (told.written n) = refl
value_in_c (told.refused why p) = refl

-- where exactly one entry is lent, and its record, the header and the signature are accepted, the seal stands in a range that has
-- room for it, and its length is told
pub sealed_in_c : (e : List ℕ) (h : HeaderInC) (g out : List ℕ) → is_only (read_entry e 0).onward (length e) ≡ true
    → IsAccepted (header_given h) (read_entry e 0).kept g
    → length (seal_octets (header_given h) (read_entry e 0).kept g) ≤ length out
    → (written_answer e h g out ≡ told.written (length (seal_octets (header_given h) (read_entry e 0).kept g)))
    × (written_out e h g out
    ≡ seal_octets (header_given h) (read_entry e 0).kept g
    ++ drop (length (seal_octets (header_given h) (read_entry e 0).kept g)) out)
unfolding written_answer written_out seal_answer seal_out IsAccepted
sealed_in_c e h g out only kept room =
    let s = seal_octets (header_given h) (read_entry e 0).kept g in
    let w = writes (length s) s out (seal_check (header_given h) (read_entry e 0).kept g) kept room in
    (rw only w.0, rw only w.1)

-- number 0 is never a refusal
told_written : (e : List ℕ) (h : HeaderInC) (g out : List ℕ) → (in_c (written_answer e h g out)).number ≡ 0
    → (n : ℕ) × (written_answer e h g out ≡ told.written n)
unfolding in_c
told_written e h g out = go (written_answer e h g out) refl
  where
    go : (l : told.Length) → written_answer e h g out ≡ l → (in_c l).number ≡ 0
        → (n : ℕ) × (written_answer e h g out ≡ told.written n)
    go (told.written n) q zero = (n, q)
    go (told.refused why p) q zero =
        let told = ((written_answers e h g out).when_refused why p q).0.0 in
        absurd (false≢true (rw zero at told))

-- the call goes on where one entry is lent
only_entry : (e : List ℕ) (h : HeaderInC) (g out : List ℕ) (n : ℕ) → written_answer e h g out ≡ told.written n
    → (is_only (read_entry e 0).onward (length e) ≡ true)
    × (seal_answer (header_given h) (read_entry e 0).kept g out ≡ told.written n)
unfolding written_answer
only_entry e h g out n = go (is_only (read_entry e 0).onward (length e))
  where
    go : (b : Bool)
        → cond b (seal_answer (header_given h) (read_entry e 0).kept g out) (told.refused (by 18) 0) ≡ told.written n
        → (b ≡ true) × (seal_answer (header_given h) (read_entry e 0).kept g out ≡ told.written n)
    go true q = (refl, q)
    go false q = absurd (refused_not_written q)

-- every refusal has 255 for the digit
no_digit_lem : (e : List ℕ) (h : HeaderInC) (g out : List ℕ) → (in_c (written_answer e h g out)).expected ≡ no_digit
unfolding in_c
no_digit_lem e h g out = go (written_answer e h g out) refl
  where
    go : (l : told.Length) → written_answer e h g out ≡ l → (in_c l).expected ≡ no_digit
    go (told.written n) q = refl
    go (told.refused (by n) p) q = refl
    go (told.refused (expecting d) p) q =
        absurd (false≢true ((written_answers e h g out).when_refused (expecting d) p q).0.0)

module _ (e : List ℕ) (h : HeaderInC) (g out : List ℕ) (r : AnswerInC) (after : List ℕ)
    (call : WritesSealInC e h g out r after) where
  -- its numbers and place, and what stays
  pub write_seal_answers : AnswersInC of_seal_writer_in_c 0 out r.number r.value after
  unfolding write_seal_in_c
  write_seal_answers =
      let l = written_answer e h g out in
      rw (call.answers, call.leaves, number_in_c l, value_in_c l)
      (answers_in_c of_seal_writer_in_c refl 0 out l (written_out e h g out) (written_answers e h g out))

  -- 0 exactly where one entry is lent, every rule is kept, and the range has room for the seal
  pub write_seal_exactly : (r.number ≡ 0)
      ↔ ((is_only (read_entry e 0).onward (length e) ≡ true)
      × Given (header_given h) (read_entry e 0).kept g
      × (length (seal_octets (header_given h) (read_entry e 0).kept g) ≤ length out))
  unfolding write_seal_in_c seal_answer IsAccepted
  write_seal_exactly = (there, back)
    where
      there : r.number ≡ 0
          → (is_only (read_entry e 0).onward (length e) ≡ true)
          × Given (header_given h) (read_entry e 0).kept g
          × (length (seal_octets (header_given h) (read_entry e 0).kept g) ≤ length out)
      there zero =
          let seal = seal_octets (header_given h) (read_entry e 0).kept g in
          let w = told_written e h g out (sym (ap (λ (a : AnswerInC). a.number) call.answers) ∙ zero) in
          let one = only_entry e h g out w.0 w.1 in
          let k = writes_only (length seal) seal out (seal_check (header_given h) (read_entry e 0).kept g) w.0 one.1 in
          (one.0, given_apart (header_given h) (read_entry e 0).kept g k.0, k.1)

      back : (is_only (read_entry e 0).onward (length e) ≡ true)
          × Given (header_given h) (read_entry e 0).kept g
          × (length (seal_octets (header_given h) (read_entry e 0).kept g) ≤ length out)
          → r.number ≡ 0
      back k =
          let accepted = accepted_given (header_given h) (read_entry e 0).kept g k.1 in
          let w = (sealed_in_c e h g out k.0 accepted k.2).0 in
          ap (λ (a : AnswerInC). a.number) call.answers ∙ (number_in_c (written_answer e h g out) ∙ ap number_told w)

  -- and then the seal stands in the range, in front of what stood behind it
  pub write_seal_leaves : r.number ≡ 0
      → (r.value ≡ length (seal_octets (header_given h) (read_entry e 0).kept g))
      × (after ≡ seal_octets (header_given h) (read_entry e 0).kept g
      ++ drop (length (seal_octets (header_given h) (read_entry e 0).kept g)) out)
  unfolding write_seal_in_c
  write_seal_leaves zero =
      let k = write_seal_exactly.0 zero in
      let accepted = accepted_given (header_given h) (read_entry e 0).kept g k.1 in
      let w = sealed_in_c e h g out k.0 accepted k.2 in (
        ap (λ (a : AnswerInC). a.value) call.answers ∙ (value_in_c (written_answer e h g out) ∙ ap value_told w.0),
        call.leaves ∙ w.1,
      )

  pub write_seal_no_digit : r.expected ≡ 255
  unfolding write_seal_in_c
  write_seal_no_digit = rw call.answers (no_digit_lem e h g out)

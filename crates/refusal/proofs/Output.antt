-- What a call that writes answers and leaves: what every answer has (`write-each`), when it writes, and DEMAND 1 of every such
-- call (`write-answers`).
use Prim.Native.Nat.{ℕ, ◌≤◌}
use mathlib.Core.Path.{◌≡◌, refl, sym}
use mathlib.Core.Bool.{Bool, true, false, cond}
use mathlib.Core.List.{List, ◌++◌}
use native.Mathlib.Omega.{arith}
use borrow.Author.Tests.{le-leb, leb-true}
use lib.Dec.{leb}
use lib.ListN.{length, drop, length-append, length-drop}
use lib.Seq.{drop-append_seam}
use Rattle.refusal.specs.Numbers.{Why, by}
use Rattle.refusal.specs.Calls.{is_of}
use Rattle.refusal.specs.Outcome.{Outcome, passed, refused}
use Rattle.refusal.specs.Length as told
use Rattle.refusal.specs.Output.{write_answer, write_out, Told, Answers}
use Rattle.refusal.proofs.Outcomes.{refused_not_written}
use Rattle.refusal.proofs.Each.{Each}

-- of every answer: a length, 16, or what the tests before tell
pub write_each : (P : told.Length → Type 0) → ((k : ℕ) → P (told.written k)) → P (told.refused (by 16) 0)
    → (o : Outcome) → Each (λ why p. P (told.refused why p)) o → (n : ℕ) (out : List ℕ) → P (write_answer o n out)
write_each P ends short (refused why p) each n out = each why p refl
write_each P ends short passed each n out = go (leb n (length out))
  where
    go : (b : Bool) → P (cond b (told.written n) (told.refused (by 16) 0))
    go true = ends n
    go false = short

module _ (n : ℕ) (octets out : List ℕ) where
  -- the octets are written where the tests pass and there is room
  pub writes : (o : Outcome) → o ≡ passed → n ≤ length out
      → (write_answer o n out ≡ told.written n) × (write_out o n octets out ≡ octets ++ drop n out)
  writes o e room = let fits = le-leb n (length out) room in (rw (e, fits), rw (e, fits))

  -- they are written in no other case
  pub writes_only : (o : Outcome) (k : ℕ) → write_answer o n out ≡ told.written k → (o ≡ passed) × (n ≤ length out) × (k ≡ n)
  writes_only (refused why p) k e = absurd (refused_not_written e)
  writes_only passed k e = go (leb n (length out)) refl e
    where
      go : (b : Bool) → leb n (length out) ≡ b → cond b (told.written n) (told.refused (by 16) 0) ≡ told.written k
          → (passed ≡ passed) × (n ≤ length out) × (k ≡ n)
      go true q h = (refl, leb-true n (length out) q, cc)
      go false q h = absurd (refused_not_written h)

  -- a refusal leaves every octet
  pub refused_leaves : (o : Outcome) (why : Why) (p : ℕ) → write_answer o n out ≡ told.refused why p
      → write_out o n octets out ≡ out
  refused_leaves (refused m q) why p e = refl
  refused_leaves passed why p e = go (leb n (length out)) e
    where
      go : (b : Bool) → cond b (told.written n) (told.refused (by 16) 0) ≡ told.refused why p
          → cond b (octets ++ drop n out) out ≡ out
      go true h = absurd (refused_not_written (sym h))
      go false h = refl

  -- a success changes no other octets
  others_stay : n ≤ length out → length octets ≡ n
      → (length (octets ++ drop n out) ≡ length out) × (drop n (octets ++ drop n out) ≡ drop n out)
  others_stay room long = (
    let all = length-append octets (drop n out) in let rest = length-drop n out in omega (arith, all, rest, room),
    rw (← long) (drop-append_seam octets (drop (length octets) out)),
  )

  -- of a call that tells 16
  module _ (numbers : List ℕ) (sixteen : is_of numbers 16 ≡ true) (end : ℕ) where
    -- what the tests before tell, and 16
    told_each : (o : Outcome) → Each (Told numbers end) o → (why : Why) (p : ℕ)
        → write_answer o n out ≡ told.refused why p → Told numbers end why p
    told_each (refused m q) each why p e = each why p (let a : m ≡ why = cc in let b : q ≡ p = cc in rw (a, b))
    told_each passed each why p e = go (leb n (length out)) e
      where
        go : (b : Bool) → cond b (told.written n) (told.refused (by 16) 0) ≡ told.refused why p → Told numbers end why p
        go true h = absurd (refused_not_written (sym h))
        go false h = let a : by 16 ≡ why = cc in let b : 0 ≡ p = cc in rw (← a, ← b) (sixteen, omega arith)

    pub write_answers : (o : Outcome) → Each (Told numbers end) o → (o ≡ passed → length octets ≡ n)
        → Answers numbers end out (write_answer o n out) (write_out o n octets out)
    write_answers o each long = record {
      when_refused = λ why p e. (told_each o each why p e, refused_leaves o why p e);
      when_written = λ k e.
          let w = writes_only o k e in
          let stay = others_stay w.1 (long w.0) in
          rw (w.2, (writes o w.0 w.1).1) (w.1, stay.0, stay.1);
    }

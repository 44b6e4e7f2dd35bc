-- What the text writer of a C host answers and leaves: document 01, "What the server lends and gets". There a record passes as
-- its entry.
use Rattle.std.specs.Prelude.{ℕ, ◌≡◌, Bool, true, false, cond, List, Result, MatchResult, eqb, length}
use Rattle.refusal.specs.declared.Cause.TheVariants.{Entry}
use Rattle.refusal.specs.declared.Refusal.{Refusal}
use Rattle.refusal.specs.Numbers.{by}
use Rattle.refusal.specs.Length.{Length, refused}
use Rattle.writing.specs.Answer.{text_answer, text_out}
use Rattle.runs.specs.Run as run
use Rattle.runs.specs.declared.run.Standing.{Standing}

-- exactly one entry: the run goes on at its own end
unfoldable pub is_only : run.Onward → ℕ → Bool
is_only (run.next offset) n = eqb offset n
is_only run.none n = false
is_only (run.refused why place) n = false

-- the whole promise of asking for it: house, record and end of the one entry that was lent, else 18 at 0
abbrev pub IsOnly : List ℕ → Result Standing Refusal → Type 0
IsOnly e r =
    MatchResult r
    (λ s. (is_only (run.read_entry e 0).onward (length e) ≡ true) × (s.house ≡ (run.read_entry e 0).house)
    × (s.kept ≡ (run.read_entry e 0).kept) × (s.next ≡ length e))
    (λ why. (is_only (run.read_entry e 0).onward (length e) ≡ false) × (why ≡ record { cause = Entry; place = 0 }))

-- the text writer is given exactly one entry and tests 18 (at 0, also for none or anything after it), then 16
unfoldable pub written_answer : List ℕ → List ℕ → Length
written_answer e out = cond (is_only (run.read_entry e 0).onward (length e)) (text_answer (run.read_entry e 0).kept out)
    (refused (by 18) 0)

unfoldable pub written_out : List ℕ → List ℕ → List ℕ
written_out e out = cond (is_only (run.read_entry e 0).onward (length e)) (text_out (run.read_entry e 0).kept out) out

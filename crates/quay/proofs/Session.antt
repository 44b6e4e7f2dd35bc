-- SEPARATION of a session: of calls in any mixture and for any houses that all answer 0, what they report, joined, is read back
-- as their houses and records (`session_read`), and the lines whose octets begin with a house are exactly those of that house's
-- calls (`session_own`).
use Prim.Native.Nat.{ℕ}
use mathlib.Core.Path.{◌≡◌, refl, ap, ◌∙◌}
use mathlib.Core.Bool.{Bool, true, false, cond}
use mathlib.Core.List.{List, [], ◌∷◌}
use borrow.Author.Tests.{eqb-true}
use lib.Dec.{eqb}
use Rattle.lent.proofs.Bools.{and_both, both_and}
use Rattle.runs.specs.Run.{none}
use Rattle.run_theorems.specs.Runs.{Line, is_kept, all_kept, joined, Reading, read_run}
use Rattle.run_theorems.specs.Separation.{lines_of, lines_under}
use Rattle.run_theorems.proofs.ListReadBack.{read_joined}
use Rattle.run_theorems.proofs.Separation.{lines_apart}
use Rattle.quay.specs.Shown.{Call, number}
use Rattle.quay.specs.Session.{all_zero, kept_of_all, line_of, lines_of_all, calls_of}
use Rattle.quay.proofs.Separation.{call_enters, kept_entry}

-- the calls' lines are a list of houses and sound records, and what was reported is that list's octets
record Listed (cs : List Call) : Type 0 where
  all_kept_lem : all_kept (lines_of_all cs) ≡ true
  octets_so : kept_of_all cs ≡ joined (lines_of_all cs)

listed : (cs : List Call) → all_zero cs ≡ true → Listed cs
unfolding all_zero kept_of_all lines_of_all line_of all_kept is_kept joined
listed [] z = record { all_kept_lem = refl; octets_so = refl }
listed (c ∷ cs) z =
    let both = and_both (eqb (number c) 0) (all_zero cs) z in
    let zero = eqb-true (number c) 0 both.0 in
    let h = call_enters c zero in
    let more = listed cs both.1 in
    record {
      all_kept_lem = both_and (both_and h.housed h.sound) more.all_kept_lem;
      octets_so = rw (kept_entry c zero, more.octets_so);
    }

lines_of_calls : (house : ℕ) (cs : List Call) → lines_of house (lines_of_all cs) ≡ lines_of_all (calls_of house cs)
unfolding lines_of lines_of_all calls_of line_of
lines_of_calls house [] = refl
lines_of_calls house (c ∷ cs) = go (eqb c.house house) (lines_of_calls house cs)
  where
    go : (b : Bool) → lines_of house (lines_of_all cs) ≡ lines_of_all (calls_of house cs)
        → cond b (line_of c ∷ lines_of house (lines_of_all cs)) (lines_of house (lines_of_all cs))
        ≡ lines_of_all (cond b (c ∷ calls_of house cs) (calls_of house cs))
    go true e = ap (λ (ls : List Line). line_of c ∷ ls) e
    go false e = e

module _ (cs : List Call) (zero : all_zero cs ≡ true) where
  pub session_read : read_run (kept_of_all cs) ≡ record { lines = lines_of_all cs; stop = none }
  session_read = let l = listed cs zero in ap read_run l.octets_so ∙ read_joined (lines_of_all cs) l.all_kept_lem

  pub session_own : (house : ℕ) → lines_under house (read_run (kept_of_all cs)).lines ≡ lines_of_all (calls_of house cs)
  session_own house =
      ap (λ (r : Reading). lines_under house r.lines) session_read
      ∙ (lines_apart house (lines_of_all cs) (listed cs zero).all_kept_lem ∙ lines_of_calls house cs)

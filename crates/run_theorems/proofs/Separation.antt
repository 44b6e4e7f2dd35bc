-- SEPARATION: what two accepted calls leave in their ranges shares its first thirty octets exactly when house, form, state, whole
-- number, birth and expiry agree (`entries_apart`); and of a run that is read, the lines whose first fifteen bits are a house are
-- exactly that house's, and together the lines are the run's, or those before the place where it is refused (`own_lines`). A call
-- may have read anything, a text, a presentation or a seal: `entered_out` is what it leaves.
use Prim.Native.Nat.{ℕ}
use mathlib.Core.Path.{◌≡◌, refl, ap, sym, ◌∙◌}
use mathlib.Core.Bool.{true}
use mathlib.Core.List.{List, [], ◌∷◌, append-nil}
use mathlib.Core.Logic.{◌↔◌}
use native.Mathlib.Omega.{arith}
use lib.ListN.{take, drop}
use lib.Seq.{take-append-le}
use Rattle.lent.proofs.Bools.{and_both}
use Rattle.refusal.specs.Outcome.{Outcome}
use Rattle.zone.specs.declared.record.Record.{Record}
use Rattle.zone.specs.Octets.{AreOctets}
use Rattle.entry.specs.Entry.{entry_of, size}
use Rattle.entry.specs.Entered.{entered_out}
use Rattle.runs.specs.Run.{house_in}
use Rattle.entry.proofs.Entered.{Enters, entered}
use Rattle.run_theorems.specs.Keys.{key_of, SameKey}
use Rattle.run_theorems.specs.Runs.{Line, is_kept, all_kept, read_run, Ends}
use Rattle.run_theorems.specs.Separation.{lines_of, lines_under}
use Rattle.run_theorems.proofs.Keys.{key_exactly}
use Rattle.run_theorems.proofs.EntryLengths.{entry_bounds}
use Rattle.run_theorems.proofs.ListReadBack.{kept_both}
use Rattle.run_theorems.proofs.WrittenThenRead.{decoded}
use Rattle.run_theorems.proofs.AnyRun.{read_any}

-- an accepted call leaves an entry, which begins with its key
pub entered_begins : (o : Outcome) (house : ℕ) (r : Record) (out : List ℕ) → Enters o house r out
    → take 30 (entered_out o house r out) ≡ key_of house r
unfolding key_of
entered_begins o house r out h =
    let w = entered house r out o h in
    let long = entry_bounds house r h.sound in
    ap (take 30) w.1 ∙ take-append-le 30 (entry_of house r) (drop (size r) out) (omega (arith, long.0))

module _ (h k : ℕ) (o p : Outcome) (r q : Record) (out to : List ℕ) (x : Enters o h r out) (y : Enters p k q to) where
  pub entries_apart : (take 30 (entered_out o h r out) ≡ take 30 (entered_out p k q to)) ↔ SameKey h r k q
  entries_apart =
      let both = key_exactly h k r q x.housed x.sound y.housed y.sound in (
        λ e. both.0 (sym (entered_begins o h r out x) ∙ (e ∙ entered_begins p k q to y)),
        λ same. entered_begins o h r out x ∙ (both.1 same ∙ sym (entered_begins p k q to y)),
      )

-- an entry begins with its house
house_first : (l : Line) → is_kept l ≡ true → house_in (entry_of l.house l.kept) ≡ l.house
house_first l k =
    let both = kept_both l k in
    ap house_in (sym (append-nil (entry_of l.house l.kept))) ∙ (decoded l.house l.kept both.0 both.1 []).house_told

pub lines_apart : (house : ℕ) (ls : List Line) → all_kept ls ≡ true → lines_under house ls ≡ lines_of house ls
unfolding lines_under lines_of all_kept
lines_apart house [] k = refl
lines_apart house (l ∷ ls) k =
    let both = and_both (is_kept l) (all_kept ls) k in
    rw (house_first l both.0, lines_apart house ls both.1)

pub own_lines : (w : List ℕ) → AreOctets w → (house : ℕ)
    → (lines_under house (read_run w).lines ≡ lines_of house (read_run w).lines) × Ends w (read_run w).lines (read_run w).stop
own_lines w small house =
    let any = read_any w small in
    (lines_apart house (read_run w).lines any.0, any.1)

-- What one answer of a run's reader says of the entry that stands where it reads, or does not.
use Prim.Native.Nat.{ℕ, ◌+◌}
use mathlib.Core.Path.{◌≡◌, ap, sym, ◌∙◌}
use mathlib.Core.Logic.{◌↔◌}
use mathlib.Core.Bool.{true}
use mathlib.Core.List.{List, ◌++◌}
use lib.ListN.{length, drop}
use Rattle.refusal.specs.Numbers.{Why}
use Rattle.lent.proofs.Bools.{both_and}
use Rattle.entry.specs.Entry.{entry_of}
use Rattle.runs.specs.Run.{Standing, next, refused, read_entry}
use Rattle.runs.proofs.Onward.{next_not_refused}
use Rattle.zone.specs.Octets.{AreOctets}
use Rattle.run_theorems.specs.Runs.{Line, is_kept, line_at, NoEntry}
use Rattle.run_theorems.proofs.WrittenThenRead.{read_where_stands}
use Rattle.run_theorems.proofs.ListReadBack.{kept_both}
use Rattle.run_theorems.proofs.ReadThenWritten.{passed_over, passed_there}

module _ (w : List ℕ) (at : ℕ) where
  -- where an entry stands, the answer is no refusal
  pub no_entry_lem : (k : Why) (p : ℕ) → (read_entry w at).onward ≡ refused k p → NoEntry (drop at w)
  no_entry_lem k p e l rest kept there =
      let both = kept_both l kept in
      let read = read_where_stands l.house l.kept both.0 both.1 w at rest there in
      next_not_refused (at + length (entry_of l.house l.kept)) k p (sym (ap (λ (a : Standing). a.onward) read) ∙ e)

  -- the reading goes on exactly where the entry of a kept house and record stands, and there with what follows it
  pub goes_on_exactly : AreOctets w → (n : ℕ)
      → ((read_entry w at).onward ≡ next n)
      ↔ ((l : Line) × (is_kept l ≡ true) × (drop at w ≡ entry_of l.house l.kept ++ drop n w) ×
      (n ≡ at + length (entry_of l.house l.kept)))
  unfolding is_kept line_at
  goes_on_exactly small n = (
    λ e.
        let p = passed_over w at n small e in (
          line_at w at,
          both_and p.house_kept p.record_kept,
          passed_there w at n (read_entry w at).house
              (read_entry w at).kept p,
          p.next_offset,
        ),
    λ x.
        let both = kept_both x.0 x.1 in
        ap (λ (a : Standing). a.onward)
        (read_where_stands x.0.house x.0.kept both.0 both.1 w at (drop n w) x.2)
        ∙ ap next (sym x.3),
  )

-- Opening an entry: 0 exactly where the entry of a house and a sound record is lent, and then these come out.
use Prim.Native.Nat.{ℕ, ◌+◌}
use mathlib.Core.Path.{◌≡◌, ap, ◌∙◌}
use mathlib.Core.Logic.{◌↔◌}
use mathlib.Core.Bool.{true}
use mathlib.Core.List.{List, []}
use native.Mathlib.Nat.{zero-add}
use borrow.Author.Tests.{eq-eqb}
use lib.ListN.{length}
use Rattle.zone.specs.Octets.{AreOctets}
use Rattle.entry.specs.Entry.{entry_of}
use Rattle.as_entry.specs.declared.received.RecordInC.{RecordInC}
use Rattle.as_entry.specs.Written.{is_only}
use Rattle.as_entry.specs.Opened.{opened_in_c, record_in_c}
use Rattle.run_theorems.specs.Runs.{Line, is_kept}
use Rattle.run_theorems.proofs.ListReadBack.{kept_both}
use Rattle.demands.specs.OneEntry.{OneEntry}
use Rattle.demands.proofs.WriteInC.{alone, one_entry}
use Rattle.demands.proofs.NotZero.{open_zero}

pub entry_opened : (l : Line) → is_kept l ≡ true → opened_in_c (entry_of l.house l.kept) ≡ record_in_c 0 l.house l.kept
unfolding opened_in_c is_only
entry_opened l k =
    let both = kept_both l k in
    let e = entry_of l.house l.kept in
    rw (alone l.house l.kept both.0 both.1 [], eq-eqb (0 + length e) (length e) (zero-add (length e)))

pub octets_opened_exactly : (e : List ℕ) → AreOctets e → ((opened_in_c e).number ≡ 0) ↔ OneEntry e
unfolding record_in_c
octets_opened_exactly e small = (λ q. one_entry e [] small ((open_zero e).0 q), back)
  where
    back : OneEntry e → (opened_in_c e).number ≡ 0
    back (l, k, same) =
        ap (λ (s : List ℕ). (opened_in_c s).number) same ∙ ap (λ (r : RecordInC). r.number) (entry_opened l k)

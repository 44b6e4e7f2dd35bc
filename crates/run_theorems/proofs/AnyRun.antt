-- DEMAND 3, any bytes: they are read as a list of kept houses and records, and either they are the bytes of that list, or they
-- are refused by 18 at the place where its bytes end, and there no entry stands. So bytes are accepted exactly when some list
-- gives them.
use Prim.Native.Nat.{ℕ, zero, suc, ◌+◌, ◌≤◌, ◌<◌}
use mathlib.Core.Path.{◌≡◌, refl, ap, sym, ◌∙◌}
use mathlib.Core.Logic.{◌↔◌, ◌⊎◌, inl, inr}
use mathlib.Core.Bool.{true}
use mathlib.Core.List.{List, [], ◌∷◌, ◌++◌, append-nil, append_assoc}
use native.Mathlib.Nat.{add-zero, zero-add}
use native.Mathlib.Omega.{arith}
use lib.ListN.{length, drop, length-append, drop_of_length-le}
use Rattle.refusal.specs.Numbers.{by}
use Rattle.entry.specs.Entry.{entry_of}
use Rattle.runs.specs.Run.{Onward, next, none, refused, read_entry}
use Rattle.zone.specs.Octets.{AreOctets}
use Rattle.run_theorems.specs.Runs.{Line, is_kept, all_kept, joined, Reading, onwards, line_at, read_from, read_run, Passed}
use Rattle.run_theorems.specs.Runs.{NoEntry, Ends, ended, broken}
use Rattle.run_theorems.proofs.WrittenThenRead.{some_octets}
use Rattle.run_theorems.proofs.ListReadBack.{read_joined}
use Rattle.runs.proofs.Onward.{none_not_refused, none_end, refused_here}
use Rattle.run_theorems.proofs.OneAnswer.{no_entry_lem}
use Rattle.run_theorems.proofs.ReadThenWritten.{passed_over, passed_there}

unfoldable Stop : List ℕ → ℕ → Onward → Type 0
Stop w p o = ((o ≡ none) × (p ≡ length w)) ⊎ ((o ≡ refused (by 18) p) × (p < length w) × NoEntry (drop p w))

-- what a reading from an offset says of the bytes there
record From (w : List ℕ) (at : ℕ) (x : Reading) : Type 0 where
  lines_kept : all_kept x.lines ≡ true
  lines_there : drop at w ≡ joined x.lines ++ drop (at + length (joined x.lines)) w
  stopped : Stop w (at + length (joined x.lines)) x.stop

nothing_more : (w : List ℕ) (at : ℕ) (o : Onward) → Stop w at o → From w at (record { lines = []; stop = o })
unfolding joined all_kept
nothing_more w at o s = record { lines_kept = refl; lines_there = rw (add-zero at); stopped = rw (add-zero at) s }

one_more_lem : (w : List ℕ) (at n : ℕ) (l : Line) (x : Reading) → Passed w at n l.house l.kept → From w n x
    → From w at (record { lines = l ∷ x.lines; stop = x.stop })
unfolding joined all_kept is_kept
one_more_lem w at n l x p f =
    let e = entry_of l.house l.kept in
    let j = joined x.lines in
    let offset = p.next_offset in
    let place : at + length (e ++ j) ≡ n + length j = rw (length-append e j) (omega arith) in
    let here : drop at w ≡ e ++ drop n w = passed_there w at n l.house l.kept p in
    record {
      lines_kept = rw (p.house_kept, p.record_kept) f.lines_kept;
      lines_there = rw place (here ∙ ap (λ (y : List ℕ). e ++ y) f.lines_there ∙ sym
          (append_assoc e j (drop (n + length j) w)));
      stopped = rw place f.stopped;
    }

read_from_lem : (most : ℕ) (w : List ℕ) (at : ℕ) → AreOctets w → at ≤ length w → length w < at + most
    → From w at (read_from most w at)
unfolding Stop read_from onwards line_at
read_from_lem zero w at small h k = absurd (omega arith)
read_from_lem (suc most) w at small h k = go (read_entry w at).onward refl (λ (n : ℕ) i j. read_from_lem most w n small i j)
  where
    go : (o : Onward) → (read_entry w at).onward ≡ o
        → ((n : ℕ) → n ≤ length w → length w < n + most → From w n (read_from most w n))
        → From w at (onwards o (line_at w at) (read_from most w))
    go (next n) e rest =
        let p = passed_over w at n small e in
        let some = some_octets (read_entry w at).house (read_entry w at).kept p.house_kept p.record_kept in
        one_more_lem w at n (line_at w at) (read_from most w n) p (rest n p.within (omega (arith, p.next_offset)))
    go none e rest = nothing_more w at none (inl (refl, none_end w at e))
    go (refused c p) e rest =
        let here = refused_here w at c p e in
        let other : at ≡ length w → ⊥ = here.1 in
        nothing_more w at (refused c p) (inr (here.0, omega arith, no_entry_lem w at c p e))

-- what the reading of any bytes says: a list of kept lines, whose bytes they are, or with whose bytes they begin and no entry
-- follows
pub read_any : (w : List ℕ) → AreOctets w → (all_kept (read_run w).lines ≡ true) × Ends w (read_run w).lines (read_run w).stop
unfolding read_run Stop
read_any w small = let f = read_from_lem (suc (length w)) w 0 small (omega arith) (omega arith) in
    (f.lines_kept, go (read_from (suc (length w)) w 0) f)
  where
    ends : (o : Onward) (ls : List Line) → w ≡ joined ls ++ drop (length (joined ls)) w → Stop w (length (joined ls)) o
        → Ends w ls o
    ends o ls p (inl h) =
        let all : length w ≤ length (joined ls) = omega (arith, h.1) in
        rw h.0 (ended (p ∙ rw (drop_of_length-le w all, append-nil)))
    ends o ls p (inr h) = rw h.0 (broken (length (joined ls)) refl h.1 p h.2)

    go : (x : Reading) → From w 0 x → Ends w x.lines x.stop
    go x f =
        let n = length (joined x.lines) in
        ends x.stop x.lines (rw (zero-add n) at f.lines_there) (rw (zero-add n) at f.stopped)

ends_all : {w : List ℕ} {ls : List Line} {o : Onward} → Ends w ls o → o ≡ none → w ≡ joined ls
ends_all (ended p) e = p
ends_all (broken p a b c d) e = absurd (none_not_refused _ p (sym e))

-- bytes are accepted exactly when some list gives them
pub run_accepted_exactly : (w : List ℕ) → AreOctets w
    → ((read_run w).stop ≡ none) ↔ ((ls : List Line) × (all_kept ls ≡ true) × (w ≡ joined ls))
run_accepted_exactly w small = (
  λ e. ((read_run w).lines, (read_any w small).0, ends_all (read_any w small).1 e),
  λ h. ap (λ (v : List ℕ). (read_run v).stop) h.2 ∙ ap (λ (x : Reading). x.stop) (read_joined h.0 h.1),
)

-- and all others are refused by 18
ends_else : {w : List ℕ} {ls : List Line} {o : Onward} → Ends w ls o → (w ≡ joined ls → ⊥) → (p : ℕ) × (o ≡ refused (by 18) p)
ends_else (ended p) h = absurd (h p)
ends_else (broken p a b c d) h = (p, refl)

pub others_refused : (w : List ℕ) → AreOctets w → ((ls : List Line) → all_kept ls ≡ true → w ≡ joined ls → ⊥)
    → (p : ℕ) × ((read_run w).stop ≡ refused (by 18) p)
others_refused w small h = ends_else (read_any w small).1 (h (read_run w).lines (read_any w small).0)

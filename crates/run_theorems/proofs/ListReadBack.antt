-- DEMAND 3, the run read back: the bytes of a list of kept houses and records are read as that list, to their end; so joined
-- entries of two different lists never give the same bytes. And of any bytes, no list with whose bytes they begin goes further
-- than the list that is read.
use Prim.Native.Nat.{ℕ, zero, suc, ◌+◌, ◌≤◌, ◌<◌}
use mathlib.Core.Path.{◌≡◌, refl, ap, sym, ◌∙◌}
use mathlib.Core.Bool.{true}
use mathlib.Core.List.{List, [], ◌∷◌, ◌++◌, append-nil, append_assoc}
use native.Mathlib.Omega.{arith}
use borrow.Author.Tests.{eq-eqb}
use lib.ListN.{length, length-append}
use Rattle.lent.proofs.Bools.{and_both}
use Rattle.zone.specs.Record.{blank}
use Rattle.sound.specs.Sound.{is_sound}
use Rattle.entry.specs.Entry.{entry_of, is_house}
use Rattle.runs.specs.Run.{none, read_entry}
use Rattle.run_theorems.specs.Runs.{Line, is_kept, all_kept, joined, Reading, onwards, line_at, read_from, read_run}
use Rattle.run_theorems.proofs.WrittenThenRead.{some_octets, read_back}

pub kept_both : (l : Line) → is_kept l ≡ true → (is_house l.house ≡ true) × (is_sound l.kept ≡ true)
unfolding is_kept
kept_both l e = and_both (is_house l.house) (is_sound l.kept) e

pub end_read : (w : List ℕ) (at : ℕ) → at ≡ length w → read_entry w at ≡ record { onward = none; house = 0; kept = blank }
unfolding read_entry
end_read w at e = rw (eq-eqb at (length w) e)

end_reading : (most : ℕ) (w : List ℕ) (at : ℕ) → at ≡ length w → read_from (suc most) w at ≡ record { lines = []; stop = none }
unfolding read_from onwards
end_reading most w at e = rw (end_read w at e)

line_read : (most : ℕ) (front rest : List ℕ) (l : Line) → is_kept l ≡ true
    → let e = entry_of l.house l.kept in
    (x : Reading) → read_from most (front ++ (e ++ rest)) (length front + length e) ≡ x
    → read_from (suc most) (front ++ (e ++ rest)) (length front) ≡ record { lines = l ∷ x.lines; stop = x.stop }
unfolding read_from onwards line_at
line_read most front rest l k x e = let both = kept_both l k in rw
    (read_back l.house l.kept both.0 both.1 front rest, e)

read_lines : (ls : List Line) (most : ℕ) (front : List ℕ) → all_kept ls ≡ true → length ls < most
    → read_from most (front ++ joined ls) (length front) ≡ record { lines = ls; stop = none }
unfolding joined all_kept
read_lines ls zero front k h = absurd (omega arith)
read_lines [] (suc most) front k h = rw append-nil (end_reading most front (length front) refl)
read_lines (l ∷ ls) (suc most) front k h =
    let e = entry_of l.house l.kept in
    let both = and_both (is_kept l) (all_kept ls) k in
    let rest = read_lines ls most (front ++ e) both.1 (omega arith) in
    line_read most front (joined ls) l both.0 (record { lines = ls; stop = none })
    (rw (append_assoc front e (joined ls), length-append front e) at rest)

-- no entry is empty
enough : (ls : List Line) → all_kept ls ≡ true → length ls ≤ length (joined ls)
unfolding joined all_kept
enough [] k = omega arith
enough (l ∷ ls) k =
    let both = and_both (is_kept l) (all_kept ls) k in
    let one = kept_both l both.0 in
    rw (length-append (entry_of l.house l.kept) (joined ls))
    (omega (arith, enough ls both.1, some_octets l.house l.kept one.0 one.1))

pub read_joined : (ls : List Line) → all_kept ls ≡ true → read_run (joined ls) ≡ record { lines = ls; stop = none }
unfolding read_run
read_joined ls k = read_lines ls (suc (length (joined ls))) [] k (omega (arith, enough ls k))

-- joined entries of two different lists never give the same bytes
pub joined_tells : (a b : List Line) → all_kept a ≡ true → all_kept b ≡ true → joined a ≡ joined b → a ≡ b
joined_tells a b k l e =
    ap (λ (x : Reading). x.lines) (sym (read_joined a k) ∙ ap read_run e ∙ read_joined b l)

-- whatever follows the bytes of a list, the list is read first
begins : (ls : List Line) (most : ℕ) (front rest : List ℕ) → all_kept ls ≡ true → length ls ≤ most
    → (more : List Line) × ((read_from most (front ++ (joined ls ++ rest)) (length front)).lines ≡ ls ++ more)
unfolding joined all_kept
begins [] most front rest k h = ((read_from most (front ++ rest) (length front)).lines, refl)
begins (l ∷ ls) zero front rest k h = absurd (omega arith)
begins (l ∷ ls) (suc most) front rest k h =
    let e = entry_of l.house l.kept in
    let both = and_both (is_kept l) (all_kept ls) k in
    let w = front ++ (e ++ (joined ls ++ rest)) in
    let b = begins ls most (front ++ e) rest both.1 (omega arith) in
    let back : (read_from most w (length front + length e)).lines ≡ ls ++ b.0 =
    rw (append_assoc front e (joined ls ++ rest), length-append front e) at b.1 in
    let read = line_read most front (joined ls ++ rest) l both.0 (read_from most w (length front + length e)) refl in
    (b.0, rw (append_assoc e (joined ls) rest) (ap (λ (x : Reading). x.lines) read ∙ ap (λ (x : List Line). l ∷ x) back))

pub begins_read : (w : List ℕ) (ls : List Line) (rest : List ℕ) → all_kept ls ≡ true → w ≡ joined ls ++ rest
    → (more : List Line) × ((read_run w).lines ≡ ls ++ more)
unfolding read_run
begins_read w ls rest k e =
    let b = begins ls (suc (length w)) [] rest k (rw (e, length-append (joined ls) rest) (omega (arith, enough ls k))) in
    (b.0, rw (sym e) at b.1)

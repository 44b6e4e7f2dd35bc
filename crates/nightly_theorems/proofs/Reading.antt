-- An entry that stands in a list is read there; lines that stand one behind the other, in the order of their keys, are read as
-- their places; and what is read from a place on is such lines.
use Prim.Native.Nat.{ℕ, zero, suc, ◌+◌, ◌-◌, ◌≤◌, ◌<◌}
use mathlib.Core.Path.{◌≡◌, refl, ap, sym, ◌∙◌}
use mathlib.Core.Logic.{◌⊎◌, inl, inr}
use mathlib.Core.Bool.{Bool, true, false}
use mathlib.Core.List.{List, [], ◌∷◌, ◌++◌, append_assoc}
use native.Mathlib.Nat.{add-zero}
use native.Mathlib.Omega.{arith}
use borrow.Author.Tests.{leb-true, leb-false}
use lib.Dec.{leb}
use lib.ListN.{length, drop, length-append, length-drop, drop_of_length-le}
use lib.Seq.{drop-drop, drop-append_seam}
use Rattle.lent.proofs.Bools.{and_both, both_and}
use Rattle.refusal.specs.Numbers.{Why, by}
use Rattle.zone.specs.Octets.{AreOctets}
use Rattle.tlv.specs.Read.{Read, value, refusal, and_then}
use Rattle.runs.specs.Run.{Standing, Onward, next, none, refused, read_entry}
use Rattle.runs.proofs.Onward.{none_end, refused_here}
use Rattle.nightly.specs.declared.place.Place.{Place}
use Rattle.nightly.specs.Key.{is_below}
use Rattle.nightly.specs.List.{entry_at, entries_from}
use Rattle.nightly.proofs.EntryHere.{entry_stands, entry_not_above, entry_refused}
use Rattle.nightly.proofs.Walking.{before, from_end, from_next, from_refused, left, left_next, left_done}
use Rattle.run_theorems.specs.Runs.{Line, is_kept, all_kept, joined, line_at, NoEntry}
use Rattle.run_theorems.proofs.WrittenThenRead.{read_where_stands, some_octets}
use Rattle.run_theorems.proofs.ListReadBack.{kept_both}
use Rattle.run_theorems.proofs.ReadThenWritten.{passed_over, passed_there}
use Rattle.run_theorems.proofs.OneAnswer.{no_entry_lem}
use Rattle.nightly_theorems.specs.Listed.{octets_of, key_in}
use Rattle.nightly_theorems.proofs.Rising.{rises_from, last_key, key_there}

-- ---- where lines stand

abbrev pub place_of : (at : ℕ) → Line → Place
place_of at l = record { start = at; end = at + length (octets_of l); house = l.house }

-- one behind the other
unfoldable pub placed : (at : ℕ) → List Line → List Place
placed at [] = []
placed at (l ∷ ls) = place_of at l ∷ placed (at + length (octets_of l)) ls

pub placed_many : (at : ℕ) (ls : List Line) → length (placed at ls) ≡ length ls
unfolding placed
placed_many at [] = refl
placed_many at (l ∷ ls) = ap suc (placed_many (at + length (octets_of l)) ls)

-- ---- one of them

module _ (w : List ℕ) (at : ℕ) (l : Line) (kept : is_kept l ≡ true) (rest : List ℕ) (there : drop at w ≡ octets_of l ++ rest)
  where
    read : read_entry w at ≡ record { onward = next (at + length (octets_of l)); house = l.house; kept = l.kept }
    read = let both = kept_both l kept in read_where_stands l.house l.kept both.0 both.1 w at rest there

    abbrev onward : (read_entry w at).onward ≡ next (at + length (octets_of l))
    onward = ap (λ (s : Standing). s.onward) read

    pub some_here : at < length w
    some_here =
        let both = kept_both l kept in
        let long : length w - at ≡ length (octets_of l) + length rest = sym (length-drop at w)
        ∙ (ap length there ∙ length-append (octets_of l) rest) in
        omega (arith, long, some_octets l.house l.kept both.0 both.1)

    pub behind_it : drop (at + length (octets_of l)) w ≡ rest
    behind_it =
        sym (drop-drop (length (octets_of l)) at w)
        ∙ (ap (drop (length (octets_of l))) there ∙ drop-append_seam (octets_of l) rest)

    pub line_read : (key : List ℕ) → is_below key (key_in l) ≡ true → entry_at w key at ≡ value (place_of at l)
    line_read key above =
        entry_stands w key at (at + length (octets_of l)) onward (rw (key_there l kept w at rest there) above)
        ∙ ap (λ (s : Standing). value (record { start = at; end = at + length (octets_of l); house = s.house })) read

    pub line_below : (key : List ℕ) → is_below key (key_in l) ≡ false → entry_at w key at ≡ refusal (by 23) at
    line_below key above =
        entry_not_above w key at (at + length (octets_of l)) onward (rw (key_there l kept w at rest there) above)

-- ---- all of them

pub lines_read : (ls : List Line) (w key : List ℕ) (at : ℕ) → all_kept ls ≡ true → rises_from key ls ≡ true → at ≤ length w
    → drop at w ≡ joined ls → left w key at ≡ value (placed at ls)
unfolding joined all_kept rises_from placed before and_then
lines_read [] w key at kept rising h there =
    let none = ap length there in
    left_done w key at (omega (arith, length-drop at w, none, h))
lines_read (l ∷ ls) w key at kept rising h there =
    let k = and_both (is_kept l) (all_kept ls) kept in
    let r = and_both (is_below key (key_in l)) (rises_from (key_in l) ls) rising in
    let n = at + length (octets_of l) in
    let long : length w - at ≡ length (octets_of l) + length (joined ls) = sym (length-drop at w)
    ∙ (ap length there ∙ length-append (octets_of l) (joined ls)) in
    let here = some_here w at l k.0 (joined ls) there in
    let behind = behind_it w at l k.0 (joined ls) there in
    let rest = lines_read ls w (key_in l) n k.1 r.1 (omega (arith, long, here)) behind in
    left_next w key at (place_of at l) here (line_read w at l k.0 (joined ls) there key r.0)
    ∙ rw (key_there l k.0 w at (joined ls) there, rest)

-- where what follows them is refused, all is
pub lines_refused : (ls : List Line) (w key : List ℕ) (at : ℕ) (rest : List ℕ) (why : Why) (p : ℕ) → all_kept ls ≡ true
    → rises_from key ls ≡ true → drop at w ≡ joined ls ++ rest
    → left w (last_key key ls) (at + length (joined ls)) ≡ refusal why p → left w key at ≡ refusal why p
unfolding joined all_kept rises_from last_key before and_then
lines_refused [] w key at rest why p kept rising there e = rw (add-zero at) at e
lines_refused (l ∷ ls) w key at rest why p kept rising there e =
    let k = and_both (is_kept l) (all_kept ls) kept in
    let r = and_both (is_below key (key_in l)) (rises_from (key_in l) ls) rising in
    let n = at + length (octets_of l) in
    let first = there ∙ append_assoc (octets_of l) (joined ls) rest in
    let place : at + length (octets_of l ++ joined ls) ≡ n + length (joined ls) =
    rw (length-append (octets_of l) (joined ls)) (omega arith) in
    let here = some_here w at l k.0 (joined ls ++ rest) first in
    let behind = behind_it w at l k.0 (joined ls ++ rest) first in
    let on = lines_refused ls w (key_in l) n rest why p k.1 r.1 behind (rw place at e) in
    left_next w key at (place_of at l) here (line_read w at l k.0 (joined ls ++ rest) first key r.0)
    ∙ rw (key_there l k.0 w at (joined ls ++ rest) first, on)

-- ---- what is read

-- how a reading stops behind a key: no entry stands there, or one whose key is not above
unfoldable pub Stop : (key rest : List ℕ) → Why → Type 0
Stop key rest why =
    ((why ≡ by 18) × (rest ≡ [] → ⊥) × NoEntry rest)
    ⊎ ((why ≡ by 23) × (l : Line) × (more : List ℕ) × (is_kept l ≡ true) × (rest ≡ octets_of l ++ more)
    × (is_below key (key_in l) ≡ false))

pub data From (w key : List ℕ) (at : ℕ) : Read (List Place) → Type 0 where
  whole : (ls : List Line) → all_kept ls ≡ true → rises_from key ls ≡ true → drop at w ≡ joined ls
      → From w key at (value (placed at ls))
  stopped : (ls : List Line) (rest : List ℕ) (why : Why) → all_kept ls ≡ true → rises_from key ls ≡ true
      → drop at w ≡ joined ls ++ rest → Stop (last_key key ls) rest why → From w key at (refusal why (at + length (joined ls)))

module _ (w key : List ℕ) (at : ℕ) where
  at_end : length w ≤ at → From w key at (value [])
  unfolding joined all_kept rises_from placed
  at_end h = whole [] refl refl (drop_of_length-le w h)

  stopped_here : (why : Why) → Stop key (drop at w) why → From w key at (refusal why at)
  unfolding joined all_kept rises_from last_key
  stopped_here why s =
      let none : From w key at (refusal why (at + 0)) = stopped [] (drop at w) why refl refl refl s in
      rw (add-zero at) at none

  one_more_lem : (l : Line) → is_kept l ≡ true → is_below key (key_in l) ≡ true
      → drop at w ≡ octets_of l ++ drop (at + length (octets_of l)) w → {m : Read (List Place)}
      → From w (key_in l) (at + length (octets_of l)) m → From w key at (before (place_of at l) m)
  unfolding joined all_kept rises_from last_key placed before and_then
  one_more_lem l kept above there (whole ls k r t) =
      whole (l ∷ ls) (both_and kept k) (both_and above r) (there ∙ ap (λ (x : List ℕ). octets_of l ++ x) t)
  one_more_lem l kept above there (stopped ls rest why k r t s) =
      let place : at + length (octets_of l ++ joined ls) ≡ at + length (octets_of l) + length (joined ls) =
      rw (length-append (octets_of l) (joined ls)) (omega arith) in
      let all = there ∙ ap (λ (x : List ℕ). octets_of l ++ x) t ∙ sym (append_assoc (octets_of l) (joined ls) rest) in
      let more : From w key at (refusal why (at + length (octets_of l ++ joined ls))) =
      stopped (l ∷ ls) rest why (both_and kept k) (both_and above r) all s in
      rw place at more

-- what stands at a place: the end, an entry above the key, one that is not, or none
module _ (w : List ℕ) (small : AreOctets w) (k : ℕ)
    (rest : (key : List ℕ) (at : ℕ) → at ≤ length w → length w < at + k → From w key at (entries_from k w key at)) (key : List ℕ)
    (at : ℕ) (here : at < length w) (enough : length w < at + suc k) where
  entry_from : (l : Line) → is_kept l ≡ true → drop at w ≡ octets_of l ++ drop (at + length (octets_of l)) w
      → at + length (octets_of l) ≤ length w → From w key at (entries_from (suc k) w key at)
  unfolding Stop
  entry_from l kept there within = go (is_below key (key_in l)) refl
    where
      go : (b : Bool) → is_below key (key_in l) ≡ b → From w key at (entries_from (suc k) w key at)
      go true above =
          let both = kept_both l kept in
          let some = some_octets l.house l.kept both.0 both.1 in
          let read = line_read w at l kept (drop (at + length (octets_of l)) w) there key above in
          let next = from_next w key at here k (place_of at l) read in
          let on = rest (key_in l) (at + length (octets_of l)) within (omega (arith, enough, some)) in
          rw (next, key_there l kept w at (drop (at + length (octets_of l)) w) there)
          (one_more_lem w key at l kept above there on)
      go false below =
          let read = line_below w at l kept (drop (at + length (octets_of l)) w) there key below in
          rw (from_refused w key at here k (by 23) at read)
          (stopped_here w key at (by 23) (inr (refl, l, drop (at + length (octets_of l)) w, kept, there, below)))

  none_from : (why : Why) (p : ℕ) → (read_entry w at).onward ≡ refused why p → From w key at (entries_from (suc k) w key at)
  unfolding Stop
  none_from why p e =
      let told = refused_here w at why p e in
      let read = entry_refused w key at (by 18) at (e ∙ told.0) in
      let some : drop at w ≡ [] → ⊥ = λ z. (let none = ap length z in omega (arith, length-drop at w, none, here)) in
      rw (from_refused w key at here k (by 18) at read)
      (stopped_here w key at (by 18) (inl (refl, some, no_entry_lem w at why p e)))

  pub here_from : From w key at (entries_from (suc k) w key at)
  unfolding is_kept line_at
  here_from = go (read_entry w at).onward refl
    where
      go : (o : Onward) → (read_entry w at).onward ≡ o → From w key at (entries_from (suc k) w key at)
      go (next n) e =
          let p = passed_over w at n small e in
          let there = passed_there w at n (read_entry w at).house (read_entry w at).kept p in
          entry_from (line_at w at) (both_and p.house_kept p.record_kept) (rw p.next_offset at there)
          (rw p.next_offset at p.within)
      go none e = let end = none_end w at e in absurd (omega (arith, end, here))
      go (refused why p) e = none_from why p e

pub read_from_lem : (k : ℕ) (w key : List ℕ) (at : ℕ) → AreOctets w → at ≤ length w → length w < at + k
    → From w key at (entries_from k w key at)
read_from_lem zero w key at small h enough = absurd (omega arith)
read_from_lem (suc k) w key at small h enough =
    go (leb (length w) at) refl (λ (x : List ℕ) (n : ℕ) i j. read_from_lem k w x n small i j)
  where
    go : (b : Bool) → leb (length w) at ≡ b
        → ((x : List ℕ) (n : ℕ) → n ≤ length w → length w < n + k → From w x n (entries_from k w x n))
        → From w key at (entries_from (suc k) w key at)
    go true q rest = let end = leb-true (length w) at q in rw (from_end w key at k end) (at_end w key at end)
    go false q rest = here_from w small k rest key at (leb-false (length w) at q) enough

-- ACCEPTED EXACTLY WHEN the octets are the joined entries of houses and sound records whose keys rise (`count_exactly`), and no
-- other lines have these octets (`no_other_lines`); REFUSED EXACTLY WHERE the first sentence fails (`refused_exactly`).
use Prim.Native.Nat.{ℕ, suc, ◌+◌, ◌<◌}
use mathlib.Core.Path.{◌≡◌, refl, ap, sym, ◌∙◌}
use mathlib.Core.Logic.{◌↔◌, inl, inr}
use mathlib.Core.Bool.{true, false}
use mathlib.Core.List.{List, [], ◌∷◌, ◌++◌}
use native.Mathlib.Nat.{zero-add}
use native.Mathlib.Omega.{arith}
use lib.ListN.{length, drop, length-append}
use lib.Seq.{drop-append_seam}
use Rattle.lent.proofs.Bools.{and_both}
use Rattle.refusal.specs.Numbers.{Why, by}
use Rattle.zone.specs.Octets.{AreOctets}
use Rattle.tlv.specs.Read.{Read, value, refusal, and_then}
use Rattle.tlv.proofs.Joined.{never_value, same_value, first_value}
use Rattle.runs.specs.Run.{Onward, next, none, refused, read_entry}
use Rattle.runs.proofs.Onward.{none_end, refused_here}
use Rattle.nightly.specs.declared.place.Place.{Place}
use Rattle.nightly.specs.Key.{is_below}
use Rattle.nightly.specs.List.{entry_at, entries, look_over}
use Rattle.nightly.proofs.EntryHere.{entry_refused}
use Rattle.nightly.proofs.Walking.{left, left_refused}
use Rattle.run_theorems.specs.Runs.{Line, is_kept, all_kept, joined, NoEntry}
use Rattle.run_theorems.proofs.ListReadBack.{joined_tells}
use Rattle.run_theorems.proofs.OneAnswer.{goes_on_exactly}
use Rattle.nightly_theorems.specs.Listed.{octets_of, key_in, rises, InOrder, Fails}
use Rattle.nightly_theorems.specs.Listed as row
use Rattle.nightly_theorems.proofs.Rising.{rises_from, last_key, rises_from_lem, rises_more}
use Rattle.nightly_theorems.proofs.Reading.{placed, placed_many, some_here, line_below, lines_read, lines_refused}
use Rattle.nightly_theorems.proofs.Reading.{Stop, From, whole, stopped, read_from_lem}

-- ---- lines in their order

pub from_nothing : (ls : List Line) → InOrder ls → rises_from [] ls ≡ true
from_nothing ls o = sym (rises_from_lem ls o.kept) ∙ o.rising

-- they are read as their places
pub in_order_read : (ls : List Line) → InOrder ls → entries (joined ls) ≡ value (placed 0 ls)
unfolding entries left
in_order_read ls o = lines_read ls (joined ls) [] 0 o.kept (from_nothing ls o) (omega arith) refl

pub in_order_counted : (ls : List Line) → InOrder ls → look_over (joined ls) ≡ value (length ls)
unfolding look_over and_then
in_order_counted ls o = rw (in_order_read ls o, placed_many 0 ls)

kept_more : (ls : List Line) (l : Line) → all_kept ls ≡ true → is_kept l ≡ true → all_kept (ls ++ (l ∷ [])) ≡ true
unfolding all_kept
kept_more [] l k h = rw h
kept_more (m ∷ ls) l k h =
    let both = and_both (is_kept m) (all_kept ls) k in
    rw both.0 (kept_more ls l both.1 h)

-- with one more they rise exactly where its key is above the last
with_more : (ls : List Line) (l : Line) → InOrder ls → is_kept l ≡ true
    → rises (ls ++ (l ∷ [])) ≡ is_below (last_key [] ls) (key_in l)
with_more ls l o h = rises_from_lem (ls ++ (l ∷ [])) (kept_more ls l o.kept h) ∙ (rises_more [] ls l ∙ rw (from_nothing ls o))

-- ---- what was read

pub never_refused : {A : Type 0} (a : A) (n : Why) (p : ℕ) → ◌≡◌ {A = Read A} (value a) (refusal n p) → ⊥
never_refused a n p e = never_value n p a (sym e)

module _ (w : List ℕ) where
  accepted_from : {m : Read (List Place)} → From w [] 0 m → (ps : List Place) → m ≡ value ps
      → (ls : List Line) × InOrder ls × (w ≡ joined ls) × (ps ≡ placed 0 ls)
  accepted_from (whole ls k r t) ps e = (ls, record { kept = k; rising = rises_from_lem ls k ∙ r }, t, sym (same_value e))
  accepted_from (stopped ls rest why k r t s) ps e = absurd (never_value _ _ ps e)

  fails_by : (ls : List Line) (rest : List ℕ) (why : Why) → InOrder ls → w ≡ joined ls ++ rest → Stop (last_key [] ls) rest why
      → Fails w why (length (joined ls))
  unfolding Stop
  fails_by ls rest why o t (inl s) = rw s.0 (row.no_entry_lem ls rest o t s.1 s.2)
  fails_by ls rest why o t (inr s) =
      rw s.0
      (row.not_above ls s.1 s.2 o (t ∙ ap (λ (x : List ℕ). joined ls ++ x) s.4) s.3
      (with_more ls s.1 o s.3 ∙ s.5))

  fails_from : {m : Read (List Place)} → From w [] 0 m → (why : Why) (p : ℕ) → m ≡ refusal why p → Fails w why p
  fails_from (whole ls k r t) why p e = absurd (never_refused _ why p e)
  fails_from (stopped ls rest y k r t s) why p e =
      let here = fails_by ls rest y (record { kept = k; rising = rises_from_lem ls k ∙ r }) t s in
      let number : y ≡ why = cc in
      let place : 0 + length (joined ls) ≡ p = cc in
      rw (number, sym (zero-add (length (joined ls))) ∙ place) at here

-- ---- what is refused

module _ (w : List ℕ) (ls : List Line) (o : InOrder ls) (rest : List ℕ) (there : w ≡ joined ls ++ rest) where
  abbrev place : ℕ
  place = length (joined ls)

  behind : drop place w ≡ rest
  behind = ap (drop place) there ∙ drop-append_seam (joined ls) rest

  refused_at : (why : Why) (p : ℕ) → place < length w → entry_at w (last_key [] ls) place ≡ refusal why p
      → look_over w ≡ refusal why p
  unfolding look_over entries left and_then
  refused_at why p here e =
      let last = left_refused w (last_key [] ls) place why p here e in
      let all = lines_refused ls w [] 0 rest why p o.kept (from_nothing ls o) there (rw (zero-add place) last) in
      rw all

  some_left : (rest ≡ [] → ⊥) → place < length w
  some_left some = go rest refl
    where
      go : (x : List ℕ) → rest ≡ x → place < length w
      go [] e = absurd (some e)
      go (c ∷ x) e =
          let long = ap length there ∙ length-append (joined ls) rest in
          let one = ap length e in
          omega (arith, long, one)

  pub no_entry_refused : AreOctets w → (rest ≡ [] → ⊥) → NoEntry rest → look_over w ≡ refusal (by 18) place
  no_entry_refused small some none_there =
      refused_at (by 18) place (some_left some) (go (read_entry w place).onward refl)
    where
      go : (x : Onward) → (read_entry w place).onward ≡ x → entry_at w (last_key [] ls) place ≡ refusal (by 18) place
      go (next n) e =
          let h = (goes_on_exactly w place small n).0 e in
          absurd (none_there h.0 (drop n w) h.1 (sym behind ∙ h.2))
      go none e = let end = none_end w place e in absurd (omega (arith, end, some_left some))
      go (refused why p) e = entry_refused w (last_key [] ls) place (by 18) place (e ∙ (refused_here w place why p e).0)

  pub not_above_refused : (l : Line) (more : List ℕ) → is_kept l ≡ true → rest ≡ octets_of l ++ more
      → rises (ls ++ (l ∷ [])) ≡ false → look_over w ≡ refusal (by 23) place
  not_above_refused l more h e below =
      let at_place = behind ∙ e in
      refused_at (by 23) place (some_here w place l h more at_place)
      (line_below w place l h more at_place (last_key [] ls) (sym (with_more ls l o h) ∙ below))

-- ---- the theorems

pub fails_refused : (w : List ℕ) → AreOctets w → (why : Why) (p : ℕ) → Fails w why p → look_over w ≡ refusal why p
fails_refused w small why p (row.no_entry_lem ls rest o there some none_there) =
    no_entry_refused w ls o rest there small some none_there
fails_refused w small why p (row.not_above ls l rest o there h below) =
    not_above_refused w ls o (octets_of l ++ rest) there l rest h refl below

module _ (w : List ℕ) (small : AreOctets w) where
  all_from : From w [] 0 (entries w)
  unfolding entries
  all_from = read_from_lem (suc (length w)) w [] 0 small (omega arith) (omega arith)

  entries_exactly : (ps : List Place)
      → (entries w ≡ value ps) ↔ ((ls : List Line) × InOrder ls × (w ≡ joined ls) × (ps ≡ placed 0 ls))
  entries_exactly ps = (
    λ e. accepted_from w all_from ps e,
    λ h. ap entries h.2 ∙ (in_order_read h.0 h.1 ∙ ap value (sym h.3)),
  )

  -- 0 and a number: the octets are so many entries of houses and sound records, joined, whose keys rise
  pub count_exactly : (n : ℕ) → (look_over w ≡ value n) ↔ ((ls : List Line) × InOrder ls × (w ≡ joined ls) × (n ≡ length ls))
  unfolding look_over and_then
  count_exactly n = (
    λ e.
        let a = first_value (entries w) (λ (ps : List Place). value (length ps)) n e in
        let h = (entries_exactly a.0).0 a.1 in
        (h.0, h.1, h.2, sym (same_value a.2) ∙ (ap length h.3 ∙ placed_many 0 h.0)),
    λ h. rw ((entries_exactly (placed 0 h.0)).1 (h.0, h.1, h.2, refl), placed_many 0 h.0, h.3),
  )

  -- a number and a place: the first sentence that fails
  pub refused_exactly : (why : Why) (p : ℕ) → (look_over w ≡ refusal why p) ↔ Fails w why p
  unfolding look_over and_then
  refused_exactly why p = (λ e. go (entries w) all_from e, fails_refused w small why p)
    where
      -- the same refusal, of a number and of places
      again : {n : Why} {q : ℕ} → ◌≡◌ {A = Read ℕ} (refusal n q) (refusal why p)
          → ◌≡◌ {A = Read (List Place)} (refusal n q) (refusal why p)
      again {n} {q} e = let number : n ≡ why = cc in let place : q ≡ p = cc in rw (number, place)

      go : (m : Read (List Place)) → From w [] 0 m → and_then m (λ ps. value (length ps)) ≡ refusal why p → Fails w why p
      go (value ps) f e = absurd (never_refused (length ps) why p e)
      go (refusal n q) f e = fails_from w f why p (again e)

-- no other lines have these octets
pub no_other_lines : (ls ms : List Line) → InOrder ls → InOrder ms → joined ls ≡ joined ms → ls ≡ ms
no_other_lines ls ms a b e = joined_tells ls ms a.kept b.kept e

-- THE STRETCH OF A HOUSE is that of its own entries, all of them and in their order (`stretch_exactly`, `cut_exactly`).
use Prim.Native.Nat.{ℕ, suc, ◌+◌, ◌-◌}
use mathlib.Core.Path.{◌≡◌, refl, ap, sym, ◌∙◌}
use mathlib.Core.Bool.{Bool, true, false, cond}
use mathlib.Core.List.{List, [], ◌∷◌, ◌++◌, append_assoc}
use native.Mathlib.Nat.{add-zero, zero-add}
use native.Mathlib.Omega.{arith}
use borrow.Author.Tests.{eqb-true, eqb-false, ne_eqb, ltb-true, ltb-false, lt-ltb, le-ltb}
use lib.Dec.{eqb, ltb}
use lib.ListN.{length, length-append}
use lib.Seq.{drop-append_seam, take-append_seam}
use Rattle.tlv.specs.Cut.{cut}
use Rattle.nightly.specs.List.{own_of, last_end, stretch_over, stretch_in, house_stretch}
use Rattle.run_theorems.specs.Runs.{Line, joined}
use Rattle.run_theorems.specs.Separation.{lines_of}
use Rattle.nightly_theorems.specs.Listed.{octets_of, InOrder}
use Rattle.nightly_theorems.specs.Stretches.{lines_below, stretch_from}
use Rattle.nightly_theorems.proofs.Reading.{place_of, placed}
use Rattle.nightly_theorems.proofs.Acceptance.{from_nothing, in_order_read}
use Rattle.nightly_theorems.proofs.Houses.{AllFrom, Ascending, from_lower, ascending}

pub joined_append : (a b : List Line) → joined (a ++ b) ≡ joined a ++ joined b
unfolding joined
joined_append [] b = refl
joined_append (l ∷ a) b =
    ap (λ (x : List ℕ). octets_of l ++ x) (joined_append a b) ∙ sym (append_assoc (octets_of l) (joined a) (joined b))

-- ---- lines of houses that never fall

pub none_below : (n : ℕ) (ls : List Line) → AllFrom n ls → lines_below n ls ≡ []
unfolding lines_below AllFrom
none_below n [] f = refl
none_below n (l ∷ ls) f = rw (le-ltb l.house n f.0) (none_below n ls f.1)

none_own : (n : ℕ) (ls : List Line) → AllFrom (suc n) ls → lines_of n ls ≡ []
unfolding lines_of AllFrom
none_own n [] f = refl
none_own n (l ∷ ls) f = rw (ne_eqb l.house n (λ e. omega (arith, f.0, e))) (none_own n ls f.1)

-- those below a house, and then its own, are those below the next
pub below_next : (n : ℕ) (ls : List Line) → Ascending ls → lines_below n ls ++ lines_of n ls ≡ lines_below (suc n) ls
unfolding lines_below lines_of Ascending
below_next n [] f = refl
below_next n (l ∷ ls) f = go (ltb l.house n) refl (eqb l.house n) refl (below_next n ls f.1)
  where
    go : (a : Bool) → ltb l.house n ≡ a → (b : Bool) → eqb l.house n ≡ b
        → lines_below n ls ++ lines_of n ls ≡ lines_below (suc n) ls
        → cond a (l ∷ lines_below n ls) (lines_below n ls) ++ cond b (l ∷ lines_of n ls) (lines_of n ls)
        ≡ cond (ltb l.house (suc n)) (l ∷ lines_below (suc n) ls) (lines_below (suc n) ls)
    go true p true q ih = absurd (omega (arith, ltb-true l.house n p, eqb-true l.house n q))
    go true p false q ih =
        let h = ltb-true l.house n p in
        rw (lt-ltb l.house (suc n) (omega (arith, h))) (ap (λ (x : List Line). l ∷ x) ih)
    go false p true q ih =
        let same = eqb-true l.house n q in
        let none = none_below n ls (from_lower n l.house ls (omega (arith, same)) f.0) in
        rw (lt-ltb l.house (suc n) (omega (arith, same)), none) (ap (λ (x : List Line). l ∷ x) (rw none at ih))
    go false p false q ih =
        let above = ltb-false l.house n p in
        let other = eqb-false l.house n q in
        rw (le-ltb l.house (suc n) (omega (arith, above, other))) ih

-- the list begins with them
pub below_begins : (n : ℕ) (ls : List Line) → Ascending ls → (rest : List Line) × (ls ≡ lines_below n ls ++ rest)
unfolding lines_below Ascending
below_begins n [] f = ([], refl)
below_begins n (l ∷ ls) f = go (ltb l.house n) refl (below_begins n ls f.1)
  where
    go : (a : Bool) → ltb l.house n ≡ a → (rest : List Line) × (ls ≡ lines_below n ls ++ rest)
        → (rest : List Line) × (l ∷ ls ≡ cond a (l ∷ lines_below n ls) (lines_below n ls) ++ rest)
    go true p ih = (ih.0, ap (λ (x : List Line). l ∷ x) ih.1)
    go false p ih =
        let none = none_below n ls (from_lower n l.house ls (ltb-false l.house n p) f.0) in
        (l ∷ ls, rw none)

-- ---- their places

own_none : (h at : ℕ) (ls : List Line) → AllFrom (suc h) ls → own_of h (placed at ls) ≡ []
unfolding own_of placed AllFrom
own_none h at [] f = refl
own_none h at (l ∷ ls) f =
    rw (ne_eqb l.house h (λ e. omega (arith, f.0, e))) (own_none h (at + length (octets_of l)) ls f.1)

own_end : (h at : ℕ) (ls : List Line) → AllFrom h ls → Ascending ls
    → last_end at (own_of h (placed at ls)) ≡ at + length (joined (lines_of h ls))
unfolding own_of placed AllFrom Ascending last_end lines_of joined
own_end h at [] f g = sym (add-zero at)
own_end h at (l ∷ ls) f g =
    go (eqb l.house h) refl (own_end h (at + length (octets_of l)) ls f.1 g.1)
  where
    n : ℕ
    n = at + length (octets_of l)

    go : (b : Bool) → eqb l.house h ≡ b
        → last_end n (own_of h (placed n ls)) ≡ n + length (joined (lines_of h ls))
        → last_end at (cond b (place_of at l ∷ own_of h (placed n ls)) (own_of h (placed n ls)))
        ≡ at + length (joined (cond b (l ∷ lines_of h ls) (lines_of h ls)))
    go true q ih = ih ∙ rw (length-append (octets_of l) (joined (lines_of h ls))) (omega arith)
    go false q ih =
        let other = eqb-false l.house h q in
        let above = from_lower (suc h) l.house ls (omega (arith, f.0, other)) g.0 in
        rw (own_none h n ls above, none_own h ls above) (sym (add-zero at))

own_stretch_lem : (h at : ℕ) (ls : List Line) → Ascending ls
    → stretch_over (own_of h (placed at ls)) ≡ stretch_from (at + length (joined (lines_below h ls))) (lines_of h ls)
unfolding own_of placed Ascending stretch_over stretch_from lines_below lines_of joined
own_stretch_lem h at [] f = refl
own_stretch_lem h at (l ∷ ls) f =
    go (ltb l.house h) refl (eqb l.house h) refl (own_stretch_lem h (at + length (octets_of l)) ls f.1)
  where
    n : ℕ
    n = at + length (octets_of l)

    go : (a : Bool) → ltb l.house h ≡ a → (b : Bool) → eqb l.house h ≡ b
        → stretch_over (own_of h (placed n ls)) ≡ stretch_from (n + length (joined (lines_below h ls))) (lines_of h ls)
        → stretch_over (cond b (place_of at l ∷ own_of h (placed n ls)) (own_of h (placed n ls)))
        ≡ stretch_from (at + length (joined (cond a (l ∷ lines_below h ls) (lines_below h ls))))
        (cond b (l ∷ lines_of h ls) (lines_of h ls))
    go true p true q ih = absurd (omega (arith, ltb-true l.house h p, eqb-true l.house h q))
    go true p false q ih =
        let place : at + length (octets_of l ++ joined (lines_below h ls)) ≡ n + length (joined (lines_below h ls)) =
        rw (length-append (octets_of l) (joined (lines_below h ls))) (omega arith) in
        rw place ih
    go false p true q ih =
        let same = eqb-true l.house h q in
        let from = from_lower h l.house ls (omega (arith, same)) f.0 in
        let end : last_end n (own_of h (placed n ls)) ≡ at + length (octets_of l ++ joined (lines_of h ls)) =
        own_end h n ls from f.1 ∙ rw (length-append (octets_of l) (joined (lines_of h ls))) (omega arith) in
        rw (none_below h ls from, add-zero at, end)
    go false p false q ih =
        let above = ltb-false l.house h p in
        let other = eqb-false l.house h q in
        let more = from_lower (suc h) l.house ls (omega (arith, above, other)) f.0 in
        rw (own_none h n ls more, none_own h ls more)

-- ---- the theorems

pub in_order_ascends : (ls : List Line) → InOrder ls → Ascending ls
in_order_ascends ls o = ascending [] ls o.kept (from_nothing ls o)

module _ (ls : List Line) (o : InOrder ls) (h : ℕ) where
  -- it begins behind the entries of the houses below, and is as long as its own
  pub stretch_exactly : house_stretch (joined ls) h ≡ stretch_from (length (joined (lines_below h ls))) (lines_of h ls)
  unfolding house_stretch stretch_in
  stretch_exactly =
      let n = length (joined (lines_below h ls)) in
      ap (stretch_in h) (in_order_read ls o) ∙ (own_stretch_lem h 0 ls (in_order_ascends ls o) ∙ rw (zero-add n))

-- a stretch of lines, cut out of what holds them
cut_from : (front : List ℕ) (own : List Line) (back : List ℕ)
    → cut (front ++ (joined own ++ back)) (stretch_from (length front) own) ≡ joined own
unfolding cut stretch_from joined
cut_from front [] back = refl
cut_from front (l ∷ ls) back =
    let j = octets_of l ++ joined ls in
    let long : length front + length j - length front ≡ length j = omega arith in
    rw (long, drop-append_seam front (j ++ back), take-append_seam j back)

module _ (ls : List Line) (o : InOrder ls) (h : ℕ) where
  -- all that stands before it, its own entries, and what follows
  pub parts : (back : List Line) × (joined ls ≡ joined (lines_below h ls) ++ (joined (lines_of h ls) ++ joined back))
  parts =
      let up = in_order_ascends ls o in
      let b = below_begins (suc h) ls up in
      let all = b.1 ∙ ap (λ (x : List Line). x ++ b.0) (sym (below_next h ls up)) in (
        b.0,
        ap joined all ∙ (joined_append (lines_below h ls ++ lines_of h ls) b.0
            ∙ (ap (λ (x : List ℕ). x ++ joined b.0) (joined_append (lines_below h ls) (lines_of h ls))
            ∙ append_assoc (joined (lines_below h ls)) (joined (lines_of h ls)) (joined b.0))),
      )

  -- "all of them, no other house's": its octets are its own entries, in their order
  pub cut_exactly : cut (joined ls) (house_stretch (joined ls) h) ≡ joined (lines_of h ls)
  cut_exactly =
      let p = parts in
      rw (stretch_exactly ls o h, p.1) (cut_from (joined (lines_below h ls)) (lines_of h ls) (joined p.0))

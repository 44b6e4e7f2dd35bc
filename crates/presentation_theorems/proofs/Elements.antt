-- The laws of elements in the words of the stages: a stretch is cut from its holder, which is octets; ends, octets alike.
use Prim.Native.Nat.{ℕ, zero, suc, ◌-◌, ◌≤◌}
use mathlib.Core.Path.{◌≡◌, refl, ap, sym, ◌∙◌}
use mathlib.Core.Bool.{Bool, true, false}
use mathlib.Core.List.{List, [], ◌∷◌}
use native.Mathlib.Omega.{arith}
use borrow.Author.Tests.{eqb-true, eqb-false, eq-eqb, ne_eqb}
use lib.Dec.{eqb}
use lib.ListN.{length, take, drop, length-take, length-drop, drop_of_length-le}
use lib.Seq.{take-take, take_all, length-take-le}
use Rattle.lent.proofs.Bools.{and_both, both_and}
use Rattle.refusal.specs.Outcome.{passed}
use Rattle.tlv.specs.declared.Stretch.{Stretch}
use Rattle.tlv.specs.Read.{value}
use Rattle.tlv.specs.Element.{element}
use Rattle.tlv.proofs.Encoded.{Stands, reads}
use Rattle.tlv.specs.Cut.{cut, end_check}
use Rattle.lent.specs.Octets.{alike}
use Rattle.zone.specs.Octets.{is_octet, AreOctets}
use Rattle.refusal.proofs.Outcomes.{unless_kept, kept_unless}
use Rattle.zone.proofs.Every.{every_take}
use Rattle.zone.proofs.Octets.{octet_below}

-- ---- elements

pub octets_before : (n : ℕ) (s : List ℕ) → AreOctets s → AreOctets (take n s)
octets_before n s small = every_take is_octet n s small

pub take_most : (n m : ℕ) (s : List ℕ) → length s ≤ m → length (take n s) ≤ m
take_most n m s h = rw (length-take n s) (omega arith)

pub read_element : (s : List ℕ) (at tag : ℕ) → AreOctets s → (v : Stretch) → element s at tag ≡ value v
    → Stands s at tag (cut s v) (drop v.to s) v
unfolding cut
read_element s at tag small v e = reads s at tag (octet_below s small) v e

-- ---- ends, octets alike, tests that agree

pub end_there : (s : List ℕ) (at : ℕ) → end_check s at ≡ passed → at ≡ length s
unfolding end_check
end_there s at e = eqb-true at (length s) (unless_kept (eqb at (length s)) 10 at e)

pub there_end : (s : List ℕ) (at : ℕ) → at ≡ length s → end_check s at ≡ passed
unfolding end_check
there_end s at e = kept_unless (eqb at (length s)) 10 at (eq-eqb at (length s) e)

pub nothing_left : (s : List ℕ) (at : ℕ) → end_check s at ≡ passed → drop at s ≡ []
nothing_left s at e = let f = end_there s at e in let h : length s ≤ at = omega arith in drop_of_length-le s h

pub left_nothing : (s : List ℕ) (at : ℕ) → at ≤ length s → drop at s ≡ [] → end_check s at ≡ passed
left_nothing s at h e =
    let none : length s - at ≡ 0 = sym (length-drop at s) ∙ ap length e in
    there_end s at (omega arith)

pub alike_same : (a b : List ℕ) → alike a b ≡ true → a ≡ b
unfolding alike
alike_same [] [] e = refl
alike_same [] (d ∷ b) e = absurd (let z : ◌≡◌ {A = ℕ} 0 1 = cc in omega arith)
alike_same (c ∷ a) [] e = absurd (let z : ◌≡◌ {A = ℕ} 0 1 = cc in omega arith)
alike_same (c ∷ a) (d ∷ b) e =
    let both = and_both (eqb c d) (alike a b) e in
    let one : c ≡ d = eqb-true c d both.0 in
    let two : a ≡ b = alike_same a b both.1 in
    cc

pub same_alike : (a b : List ℕ) → a ≡ b → alike a b ≡ true
unfolding alike
same_alike a b e = rw e (itself b)
  where
    itself : (b : List ℕ) → alike b b ≡ true
    itself [] = refl
    itself (d ∷ b) = both_and (eq-eqb d d refl) (itself b)

-- two tests that hold together are the same
pub same_test : (a b c d : ℕ) → (a ≡ b → c ≡ d) → (c ≡ d → a ≡ b) → eqb a b ≡ eqb c d
same_test a b c d to back = go (eqb c d) refl
  where
    go : (t : Bool) → eqb c d ≡ t → eqb a b ≡ t
    go true e = eq-eqb a b (back (eqb-true c d e))
    go false e = ne_eqb a b (λ h. eqb-false c d e (to h))

-- ---- a stretch of a prefix is a stretch of the whole

pub cut_before : (w : List ℕ) (e from to : ℕ) → to ≤ e → from ≤ to
    → take (to - from) (drop from (take e w)) ≡ take (to - from) (drop from w)
cut_before w e from to h k = go w e from to h k
  where
    go : (w : List ℕ) (e from to : ℕ) → to ≤ e → from ≤ to
        → take (to - from) (drop from (take e w)) ≡ take (to - from) (drop from w)
    go w e zero to a b = take-take (to - 0) e w (omega arith)
    go [] e (suc f) to a b = ap (λ (l : List ℕ). take (to - suc f) (drop (suc f) l)) (take_all e [] (omega arith))
    go (c ∷ w) zero (suc f) to a b = absurd (omega arith)
    go (c ∷ w) (suc e) (suc f) zero a b = absurd (omega arith)
    go (c ∷ w) (suc e) (suc f) (suc to) a b =
        let gap : suc to - suc f ≡ to - f = omega arith in
        rw gap (go w e f to (omega arith) (omega arith))

-- octets that stand in a stretch
pub record StringIn (s : List ℕ) (v : Stretch) (l : List ℕ) : Type 0 where
  pub string_cut : cut s v ≡ l
  pub string_ordered : v.from ≤ v.to
  pub string_within : v.to ≤ length s

pub string_before : (w : List ℕ) (n : ℕ) (v : Stretch) (l : List ℕ) → n ≤ length w → StringIn (take n w) v l → StringIn w v l
unfolding cut
string_before w n v l h k =
    let long : length (take n w) ≡ n = length-take-le n w h in
    let fits : v.to ≤ n = omega (arith, k.string_within) in
    record {
      string_cut = sym (cut_before w n v.from v.to fits k.string_ordered) ∙ k.string_cut;
      string_ordered = k.string_ordered;
      string_within = omega arith;
    }

-- The composite digit's place is outside of everything that the digit covers, so that writing it changes nothing there.
use Prim.Native.Nat.{ℕ, ◌+◌, ◌≤◌}
use mathlib.Core.Path.{◌≡◌, refl}
use mathlib.Core.Bool.{Bool, true, ◌&&◌, ◌||◌}
use mathlib.Core.Logic.{◌⊎◌, inl, inr}
use mathlib.Core.List.{List, [], ◌∷◌}
use native.Mathlib.Omega.{arith}
use borrow.Author.Rules.{rules}
use borrow.Author.Tests.{leb-true, ltb-true}
use lib.Dec.{leb, ltb}
use lib.ListN.{length, take, drop}
use Rattle.lent.specs.Copied.{copied_at}
use Rattle.lent.proofs.Bools.{and_both, or_either}
use Rattle.zone.specs.declared.form.Form.{Form}
use Rattle.zone.specs.declared.record.Record.{Record}
use Rattle.zone.specs.Part.{composite}
use Rattle.zone.specs.Form.{row, forms, start, start_in, has, total, Piece, piece_of, pieces, cut, joined_cuts, covered}
use Rattle.zone.proofs.AllForms.{all_forms}
use Rattle.zone.proofs.Widths.{within, ones, has_one}
use Rattle.writing.specs.Inner.Puts.{put}
use Rattle.lent.proofs.Copies.{before_copied, behind_copied}

is_clear : ℕ → Piece → Bool
is_clear p s = leb (s.start + s.width) p || ltb p s.start

are_clear : ℕ → List Piece → Bool
are_clear p [] = true
are_clear p (s ∷ ss) = is_clear p s && are_clear p ss

composite_clear : (f : Form) → are_clear (start f composite) (pieces f) ≡ true
unfolding are_clear is_clear row forms start start_in piece_of pieces
composite_clear = all_forms (λ f. are_clear (start f composite) (pieces f) ≡ true) (search rules)

module _ (t : List ℕ) (p c : ℕ) (h : p + 1 ≤ length t) where
  cut_clear : (s : Piece) → is_clear p s ≡ true → cut (copied_at t p (c ∷ [])) s ≡ cut t s
  unfolding is_clear cut
  cut_clear s e = go (or_either (leb (s.start + s.width) p) (ltb p s.start) e)
    where
      go : (leb (s.start + s.width) p ≡ true) ⊎ (ltb p s.start ≡ true)
          → take s.width (drop s.start (copied_at t p (c ∷ []))) ≡ take s.width (drop s.start t)
      go (inl k) = before_copied t p (c ∷ []) h s.start s.width (leb-true (s.start + s.width) p k)
      go (inr k) = behind_copied t p (c ∷ []) h s.start s.width (omega (arith, ltb-true p s.start k))

  joined_clear : (ss : List Piece) → are_clear p ss ≡ true → joined_cuts (copied_at t p (c ∷ [])) ss ≡ joined_cuts t ss
  unfolding are_clear joined_cuts
  joined_clear [] e = refl
  joined_clear (s ∷ ss) e =
      let both = and_both (is_clear p s) (are_clear p ss) e in
      rw (cut_clear s both.0, joined_clear ss both.1)

pub covered_clear : (r : Record) (c : ℕ) (t : List ℕ) → has r.form composite ≡ true → length t ≡ total r.form
    → covered r.form (put r composite (c ∷ []) t) ≡ covered r.form t
unfolding put covered
covered_clear r c t there e =
    let f = r.form in
    let w = has_one f composite (ones f).composite_most there in
    let h : start f composite + 1 ≤ length t = omega (arith, within f composite, w) in
    rw w (joined_clear t (start f composite) c h (pieces f) (composite_clear f))

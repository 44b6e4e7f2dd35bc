-- Nothing put in the place of a part, one character more, and one copy behind another.
use Prim.Native.Nat.{ℕ, suc, ◌+◌, ◌≤◌, ◌<◌}
use mathlib.Core.Path.{◌≡◌, ◌∙◌}
use mathlib.Core.List.{List, [], ◌∷◌, ◌++◌}
use native.Mathlib.Nat.{add-zero}
use native.Mathlib.Numerals.{add-one}
use native.Mathlib.Omega.{arith}
use lib.ListN.{length, set, length-append, take-append-drop}
use lib.Seq.{take_all, take-nil}
use Rattle.lent.specs.Copied.{copied_at}
use Rattle.zone.specs.declared.record.Record.{Record}
use Rattle.zone.specs.Part.{Part}
use Rattle.zone.specs.Form.{start, width, total}
use Rattle.zone.proofs.Widths.{within}
use Rattle.writing.specs.Inner.Puts.{put}
use Rattle.lent.proofs.Copies.{copied_there, set_behind, copied_both}

module _ (r : Record) where
  pub put_none : (x : Part) (t : List ℕ) → length t ≡ total r.form → put r x [] t ≡ t
  unfolding put
  put_none x t e =
      let at = start r.form x in
      let h : at + 0 ≤ length t = rw e (omega (arith, within r.form x)) in
      rw (take-nil {A = ℕ} (width r.form x), copied_there t at [] h, add-zero at) (take-append-drop at t)

  pub put_more : (x : Part) (s : List ℕ) (c : ℕ) (t : List ℕ) → length t ≡ total r.form → length s < width r.form x
      → set (put r x s t) (start r.form x + length s) c ≡ put r x (s ++ (c ∷ [])) t
  unfolding put
  put_more x s c t e h =
      let w = width r.form x in
      let m : length (s ++ (c ∷ [])) ≡ suc (length s) = length-append s (c ∷ []) ∙ add-one (length s) in
      rw (take_all w s (omega arith), take_all w (s ++ (c ∷ [])) (rw m (omega arith)))
      (set_behind t (start r.form x) s c (rw e (omega (arith, within r.form x))))

  -- one copy behind another is one copy
  pub put_behind : (x : Part) (s u t : List ℕ) → length t ≡ total r.form → length s + length u ≤ width r.form x
      → copied_at (put r x s t) (start r.form x + length s) u ≡ put r x (s ++ u) t
  unfolding put
  put_behind x s u t e h =
      let w = width r.form x in
      let m : length (s ++ u) ≤ w = rw length-append h in
      rw (take_all w s (omega arith), take_all w (s ++ u) m)
      (copied_both t (start r.form x) s u (rw e (omega (arith, within r.form x))))

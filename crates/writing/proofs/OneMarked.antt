-- A part put into a text fits there; one character marked is a part of one character put.
use Prim.Native.Nat.{ℕ, suc, ◌+◌, ◌≤◌}
use mathlib.Core.Path.{◌≡◌, sym, ◌∙◌}
use mathlib.Core.Bool.{true, false, false≢true}
use mathlib.Core.List.{List, [], ◌∷◌}
use native.Mathlib.Nat.{add-zero}
use native.Mathlib.Numerals.{add-one}
use native.Mathlib.Omega.{arith}
use lib.ListN.{length, set, take, length-take, take-append-drop}
use lib.Seq.{set_split, set_out}
use mathlib.Core.Logic.{◌⊎◌, inl, inr}
use Rattle.zone.specs.declared.record.Record.{Record}
use Rattle.zone.specs.Part.{Part}
use Rattle.zone.specs.Form.{start, width, has, total}
use Rattle.zone.proofs.Widths.{within, here_or_end, has_one}
use Rattle.writing.specs.Inner.Puts.{put, mark}
use Rattle.lent.proofs.Copies.{copied_there, length-copied}

module _ (r : Record) where
  -- what is put fits
  pub put_fits : (x : Part) (s t : List ℕ) → length t ≡ total r.form
      → start r.form x + length (take (width r.form x) s) ≤ length t
  put_fits x s t e = rw (length-take, e) (omega (arith, within r.form x))

  pub put_length : (x : Part) (s t : List ℕ) → length t ≡ total r.form → length (put r x s t) ≡ total r.form
  unfolding put
  put_length x s t e = length-copied t (start r.form x) (take (width r.form x) s) (put_fits x s t e) ∙ e

  -- where a part of one character begins, or at the end where the form does not have it
  pub data Single (x : Part) : Type 0 where
    single : width r.form x ≡ 1 → Single x
    missing : width r.form x ≡ 0 → start r.form x ≡ total r.form → Single x

  pub mark_put : (x : Part) (c : ℕ) (t : List ℕ) → length t ≡ total r.form → Single x → mark r x c t ≡ put r x (c ∷ []) t
  unfolding mark put
  mark_put x c t e (single w) =
      let at = start r.form x in
      let h : at + 1 ≤ length t = rw e (omega (arith, within r.form x)) in
      let k : at + length (c ∷ []) ≡ suc at = add-one at in
      rw w (set_split t at c (omega arith) ∙ sym (rw k at (copied_there t at (c ∷ []) h)))
  mark_put x c t e (missing w k) =
      let h : total r.form + 0 ≤ length t = omega arith in
      let z : total r.form + length {A = ℕ} [] ≡ total r.form = add-zero (total r.form) in
      rw (w, k) (set_out t (total r.form) c (omega arith) ∙ sym
      (rw z at (copied_there t (total r.form) [] h) ∙ take-append-drop (total r.form) t))

  -- a part that the form does not have is not marked
  pub mark_none : (x : Part) (c : ℕ) (t : List ℕ) → length t ≡ total r.form → has r.form x ≡ false → mark r x c t ≡ t
  unfolding mark
  mark_none x c t e none = go (here_or_end r.form x)
    where
      go : (has r.form x ≡ true) ⊎ ((width r.form x ≡ 0) × (start r.form x ≡ total r.form))
          → set t (start r.form x) c ≡ t
      go (inl there) = absurd (false≢true (sym none ∙ there))
      go (inr end) = rw end.1 (set_out t (total r.form) c (omega arith))

  pub single_or_none : (x : Part) → width r.form x ≤ 1 → Single x
  single_or_none x most = go (here_or_end r.form x)
    where
      go : (has r.form x ≡ true) ⊎ ((width r.form x ≡ 0) × (start r.form x ≡ total r.form)) → Single x
      go (inl there) = single (has_one r.form x most there)
      go (inr none) = missing none.0 none.1

-- The characters of a text found in its fields.
use Prim.Native.Nat.{ℕ, ◌+◌, ◌<◌}
use mathlib.Core.Path.{◌≡◌, ap, sym, ◌∙◌}
use mathlib.Core.List.{List, [], ◌∷◌}
use native.Mathlib.Nat.{add-zero}
use native.Mathlib.Omega.{arith}
use lib.ListN.{drop, get_or}
use lib.Seq.{get_or-take, get_or-drop}
use Rattle.zone.specs.declared.form.Form.{Form}
use Rattle.zone.specs.Part.{Part}
use Rattle.zone.specs.Form.{start, width, field}
use Rattle.zone.specs.Record.{padded}
use Rattle.zone.proofs.Padded.{padded_exact}

-- a character of a field, and where it stands in the text
pub in_field : (f : Form) (x : Part) (t : List ℕ) (i : ℕ) → i < width f x → get_or t (start f x + i) 0 ≡ get_or (field f x t) i 0
unfolding field
in_field f x t i h = sym (get_or-take (width f x) (drop (start f x) t) i 0 h ∙ get_or-drop (start f x) t i 0)

-- the one character of a part
pub one_there : (f : Form) (x : Part) (t : List ℕ) (c : ℕ) → width f x ≡ 1 → field f x t ≡ padded (width f x) (c ∷ [])
    → get_or t (start f x) 0 ≡ c
one_there f x t c w e =
    let k : padded (width f x) (c ∷ []) ≡ c ∷ [] = padded_exact (width f x) (c ∷ []) (sym w) in
    ap (λ i. get_or t i 0) (sym (add-zero (start f x))) ∙ in_field f x t 0 (omega arith)
    ∙ ap (λ (l : List ℕ). get_or l 0 0) (e ∙ k)

-- The code stands first in every form, so that a text's first two characters tell whether it is a visa's.
use Prim.Native.Nat.{ℕ, ◌+◌, ◌<◌}
use mathlib.Core.Path.{◌≡◌, ap, sym, ◌∙◌}
use mathlib.Core.List.{List, ◌∷◌}
use native.Mathlib.Nat.{zero-add}
use native.Mathlib.Omega.{arith}
use borrow.Author.Rules.{rules}
use lib.ListN.{get_or, drop}
use Rattle.zone.specs.declared.form.Form.{Form}
use Rattle.zone.specs.Part.{code}
use Rattle.zone.specs.Form.{row, forms, is_visa_code, selects_visa, part_of, parts, start, start_in, field}
use Rattle.zone.proofs.AllForms.{all_forms}
use Rattle.zone.proofs.Fields.{in_field}
use Rattle.zone.proofs.Widths.{fixed}

pub record First (f : Form) : Type 0 where
  pub at_start : start f code ≡ 0
  pub before_all : parts f ≡ code ∷ drop 1 (parts f)

pub first : (f : Form) → First f
unfolding start start_in parts part_of row forms
first = all_forms First (search rules)

there : (f : Form) (t : List ℕ) (i : ℕ) → i < 2 → get_or (field f code t) i 0 ≡ get_or t i 0
there f t i h =
    sym (in_field f code t i (omega (arith, (fixed f).code_width))) ∙ (ap (λ (n : ℕ). get_or t (n + i) 0) (first f).at_start
    ∙ ap (λ (n : ℕ). get_or t n 0) (zero-add i))

pub code_there : (f : Form) (t : List ℕ)
    → is_visa_code (get_or (field f code t) 0 0) (get_or (field f code t) 1 0) ≡ selects_visa t
code_there f t = rw (there f t 0 (omega arith), there f t 1 (omega arith))

-- The order in which the code joins the check digits is the text order of each form.
use Prim.Native.Nat.{ℕ}
use mathlib.Core.Path.{◌≡◌}
use mathlib.Core.List.{List}
use borrow.Author.Rules.{rules}
use lib.Dec.{ltb}
use Rattle.refusal.specs.Outcome.{Outcome, or_else}
use Rattle.refusal.proofs.Outcomes.{or_else_assoc, or_else_passed}
use Rattle.zone.specs.declared.form.Form.{Form}
use Rattle.zone.specs.Part.{Part, number_check, optional, birth, birth_check, expiry_check, personal, personal_check, composite}
use Rattle.zone.specs.Form.{row, forms, part_of, parts, start, start_in, width, width_in}
use Rattle.zone.proofs.AllForms.{all_forms}
use Rattle.text_digits.specs.Digits.{digit_rows, digit_check, in_order}
use Rattle.text_digits.specs.Inner.Checks.{if_has, in_turn}
use Rattle.text_digits.specs.declared.number.Span.{Span}

-- what the code joins in every form: the dates' digits, and the last two
abbrev dates : (Part → Outcome) → Outcome
dates check = or_else (check birth_check) (check expiry_check)

abbrev last : Form → (Part → Outcome) → Outcome
last f check = or_else (if_has f personal (check personal_check)) (if_has f composite (check composite))

-- as the code joins them
abbrev joined : Form → List ℕ → Span → Outcome
joined f t span =
    let check = digit_check f t span in
    let further = if_has f optional (check optional) in
    or_else (check number_check) (or_else (in_turn (ltb (start f optional) (start f birth)) further (dates check)) (last f check))

-- the optional field stands before birth, TD1, or behind expiry, or there is none
pub digits_in_order : (f : Form) (t : List ℕ) (span : Span) → joined f t span ≡ in_order (digit_check f t span) (parts f)
unfolding in_order in_turn digit_rows if_has parts part_of row forms start start_in width width_in
digits_in_order f t span =
    all_forms (λ g. joined g t span ≡ in_order (digit_check g t span) (parts g))
    (simp (or_else_assoc, or_else_passed) (search rules)) f

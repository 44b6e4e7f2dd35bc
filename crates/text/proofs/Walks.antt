-- The order in which the code joins the fields' checks is the text order of each form.
use Prim.Native.Nat.{ℕ}
use mathlib.Core.Path.{◌≡◌}
use mathlib.Core.List.{List}
use borrow.Author.Rules.{rules}
use lib.Dec.{ltb}
use Rattle.refusal.specs.Outcome.{Outcome, or_else}
use Rattle.refusal.proofs.Outcomes.{or_else_assoc, or_else_passed}
use Rattle.zone.specs.declared.form.Form.{Form}
use Rattle.zone.specs.Part.{Part, code, state, number, birth, sex, expiry, nationality, name}
use Rattle.zone.specs.Form.{row, forms, part_of, parts, start, start_in}
use Rattle.zone.proofs.AllForms.{all_forms}
use Rattle.text_digits.specs.Digits.{in_order}
use Rattle.text_digits.specs.Inner.Checks.{in_turn}
use Rattle.text_digits.specs.declared.number.Span.{Span}
use Rattle.text.specs.Order.{field_rows, field_check}

-- what the code joins in every form: code and state, birth, sex and expiry
abbrev opening : (Part → Outcome) → Outcome
opening check = or_else (check code) (check state)

abbrev person : (Part → Outcome) → Outcome
person check = or_else (check birth) (or_else (check sex) (check expiry))

-- as the code joins them
abbrev joined : Form → List ℕ → Span → Outcome
joined f t span =
    let check = field_check f t span in
    let ahead = ltb (start f name) (start f number) in
    or_else (opening check)
    (in_turn ahead (check name) (or_else (check number) (in_turn ahead (check nationality) (person check))))

-- the name and the nationality stand before number and person, TD2 and TD3, or behind them, TD1
pub fields_in_order : (f : Form) (t : List ℕ) (span : Span) → joined f t span ≡ in_order (field_check f t span) (parts f)
unfolding in_order in_turn field_rows parts part_of row forms start start_in
fields_in_order f t span =
    all_forms (λ g. joined g t span ≡ in_order (field_check g t span) (parts g))
    (simp (or_else_assoc, or_else_passed) (search rules depth 9)) f

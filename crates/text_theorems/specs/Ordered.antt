-- The checks of a text one after the other, and which of them a refusal names: document 01, "The text", Order.
use Rattle.std.specs.Prelude.{Option, Some, None, ℕ, List, [], ◌∷◌, ◌++◌, Bool, true, ◌&&◌, eqb, ltb, length}
use Rattle.refusal.specs.Numbers.{Why, by}
use Rattle.refusal.specs.Outcome.{Outcome, passed, refused, unless}
use Rattle.zone.specs.declared.form.Form.{Form}
use Rattle.zone.specs.declared.form.Source.{Source}
use Rattle.zone.specs.Alphabet.{first_foreign}
use Rattle.zone.specs.Part.{Part}
use Rattle.zone.specs.Rows.{PartRow, in_rows}
use Rattle.zone.specs.Form.{form_of, parts}
use Rattle.text_theorems.specs.TextChecks.{field_checks, digit_checks}

-- the rows of each part of a list, in its order
unfoldable pub by_part : List (PartRow (List Outcome)) → List Part → List Outcome
by_part rows [] = []
by_part rows (x ∷ xs) = in_rows [] rows x ++ by_part rows xs

-- "Order: 1, 2, then 3 to 8 by field in text order, then check digits in text order": 1, a text of no form that may stand there,
-- at its start; 2 at the first character that is not of the alphabet
unfoldable pub checks_by : Option Form → List ℕ → List Outcome
checks_by None t = refused (by 1) 0 ∷ []
checks_by (Some f) t =
    unless (eqb (first_foreign t) (length t)) 2 (first_foreign t)
    ∷ (by_part (field_checks f t) (parts f) ++ by_part (digit_checks f t) (parts f))

unfoldable pub checks_of : Source → List ℕ → List Outcome
checks_of source t = checks_by (form_of source t) t

-- every check before it passed, and this one did not
pub data FirstFailing : List Outcome → Why → ℕ → Type 0 where
  here : {n : Why} {p : ℕ} {rest : List Outcome} → FirstFailing (refused n p ∷ rest) n p
  later : {n : Why} {p : ℕ} {rest : List Outcome} → FirstFailing rest n p → FirstFailing (passed ∷ rest) n p

-- each number is below the next
unfoldable pub is_rising : List ℕ → Bool
is_rising [] = true
is_rising (n ∷ []) = true
is_rising (n ∷ (m ∷ ns)) = ltb n m && is_rising (m ∷ ns)

-- The document code: document 01, "The text", Field rules, Code; document 02, request 2026-05, of visas.
use Rattle.std.specs.Prelude.{ℕ, Bool, not, ◌&&◌, ◌||◌, List, get_or, eqb}
use Prim.Native.Char.{code}
use Rattle.zone.specs.Alphabet.{is_letter, is_filler}
use Rattle.zone.specs.declared.form.Form.{Form}
use Rattle.zone.specs.declared.form.Kind.{Kind}
use Rattle.zone.specs.declared.form.Kind.TheVariants.{Card, Passport, Visa}
use Rattle.zone.specs.Form.{row, is_visa_code}

-- A, C or I
unfoldable pub is_card_letter : ℕ → Bool
is_card_letter a = eqb a (code "A") || eqb a (code "C") || eqb a (code "I")

-- second character a letter or `<`
unfoldable pub is_second : ℕ → Bool
is_second b = is_letter b || is_filler b

-- in TD1 and TD2 not V, and not C after A
unfoldable pub card_rule : ℕ → ℕ → Bool
card_rule a b = is_card_letter a && (is_second b && (not (eqb b (code "V")) && not (eqb a (code "A") && eqb b (code "C"))))

-- TD3 begins with P
unfoldable pub passport_rule : ℕ → ℕ → Bool
passport_rule a b = eqb a (code "P") && is_second b

unfoldable pub kind_rule : Kind → ℕ → ℕ → Bool
kind_rule Card a b = card_rule a b
kind_rule Passport a b = passport_rule a b
kind_rule Visa a b = is_visa_code a b

unfoldable pub code_rule : Form → List ℕ → Bool
code_rule f s = kind_rule (row f).kind (get_or s 0 0) (get_or s 1 0)

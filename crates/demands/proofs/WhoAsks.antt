-- The numbers of the enums that have none of their own, by who asks (docs/DEMANDS.md, "What is excepted"): where a text or an
-- entry tells no form, where a long number has no end, and where a length is not definite and shortest.
use Rattle.std.specs.Prelude.{None}
use Prim.Native.Nat.{ℕ}
use mathlib.Core.Path.{◌≡◌, refl}
use mathlib.Core.Bool.{Bool, true, false, not, ◌&&◌}
use mathlib.Core.List.{List}
use lib.ListN.{get_or}
use Rattle.refusal.specs.Numbers.{by}
use Rattle.refusal.specs.Outcome.{refused, unless}
use Rattle.zone.specs.declared.form.Form.{Form}
use Rattle.zone.specs.declared.form.Source.{Source}
use Rattle.zone.specs.Alphabet.{is_filler}
use Rattle.zone.specs.Part.{number}
use Rattle.zone.specs.Form.{form_of, start, field}
use Rattle.zone.specs.Record.{blank}
use Rattle.text_digits.specs.declared.number.Span.TheVariants.{Bad}
use Rattle.text_digits.specs.Number.{span_rule, number_rule}
use Rattle.text.specs.Order.{field_rows, field_check}
use Rattle.text.specs.Read.{read_text, read_by, answered}
use Rattle.runs.specs.Run.{form_in, entry_by, no_entry}
use Rattle.tlv.specs.Read.{refusal}
use Rattle.tlv.specs.Element.{sized, size_at}

-- 1 at a text's start
pub no_form_read : (source : Source) (t : List ℕ) → form_of source t ≡ None
    → read_text source t ≡ record { outcome = refused (by 1) 0; kept = blank }
unfolding read_text read_by answered
no_form_read source t e = rw e

-- 18 at an entry's start
pub no_form_entered : (s : List ℕ) (at : ℕ) → form_in s ≡ None → entry_by (form_in s) s at ≡ no_entry at
unfolding entry_by
no_form_entered s at e = rw e

-- 5 at the number's start
pub no_end_read : (f : Form) (t : List ℕ) → field_check f t Bad number ≡ refused (by 5) (start f number)
unfolding field_rows number_rule span_rule
no_end_read f t = never (not (is_filler (get_or (field f number t) 0 0)))
  where
    never : (b : Bool) → unless (b && false) 5 (start f number) ≡ refused (by 5) (start f number)
    never true = refl
    never false = refl

-- 10 at the element's tag
pub no_size_taken : (s : List ℕ) (at place : ℕ) → size_at s place ≡ None
    → sized s at place (size_at s place) ≡ refusal (by 10) at
unfolding sized
no_size_taken s at place e = rw e

-- The composite's digit of a text that passed its check, and of one that was written. They stand apart so that acceptance can be
-- stated without that rule, these two fitted to it, and seen to be refused where the rule is used.
use Prim.Native.Nat.{ℕ}
use mathlib.Core.Path.{◌≡◌}
use mathlib.Core.Bool.{true}
use mathlib.Core.List.{List}
use lib.ListN.{get_or}
use Rattle.refusal.specs.Outcome.{passed}
use Rattle.zone.specs.declared.form.Form.{Form}
use Rattle.zone.specs.declared.record.Record.{Record}
use Rattle.zone.specs.Part.{composite}
use Rattle.zone.specs.Form.{start, has, covered}
use Rattle.digit.specs.Check.{digit_of}
use Rattle.text_digits.specs.declared.number.Span.{Span}
use Rattle.text_digits.specs.Digits.{digit_rows, digit_check}
use Rattle.writing.specs.Text.{text_of}
use Rattle.text_theorems.proofs.PartByPart.{digit_kept}
use Rattle.text_theorems.proofs.TextOfRecord.{last_shown}

pub composite_kept : (f : Form) (t : List ℕ) (span : Span) → digit_check f t span composite ≡ passed
    → get_or t (start f composite) 0 ≡ digit_of (covered f t)
unfolding digit_rows
composite_kept f t span e = digit_kept t (start f composite) (covered f t) e

pub composite_shown : (r : Record) → has r.form composite ≡ true
    → get_or (text_of r) (start r.form composite) 0 ≡ digit_of (covered r.form (text_of r))
composite_shown r there = last_shown r there

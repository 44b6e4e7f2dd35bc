-- No words of the paper: how many characters of a number stand in the optional field.
use Rattle.std.specs.Prelude.{ℕ}
use Rattle.text_digits.specs.declared.number.Span.{Span}
use Rattle.text_digits.specs.declared.number.Span.TheVariants.{Short, Long, Bad}

unfoldable pub further_in : Span → ℕ
further_in Short = 0
further_in (Long further) = further
further_in Bad = 0

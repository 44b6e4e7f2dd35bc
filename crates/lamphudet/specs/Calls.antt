-- What the readers of a C host answer and leave: document 01, "What the server lends and gets". There a record passes as its
-- entry.
use Rattle.std.specs.Prelude.{ℕ, List}
use Rattle.refusal.specs.Length.{Length}
use Rattle.text.specs.Read as reading
use Rattle.entry.specs.Entered.{entered_answer, entered_out}

-- what was read is entered under the house
unfoldable pub read_answer : ℕ → reading.Answer → List ℕ → Length
read_answer house a out = entered_answer a.outcome house a.kept out

unfoldable pub read_out : ℕ → reading.Answer → List ℕ → List ℕ
read_out house a out = entered_out a.outcome house a.kept out

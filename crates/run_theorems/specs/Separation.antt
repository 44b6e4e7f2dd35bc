-- Separation, what the owner sells: one line's passenger never comes up in another's session. Document 01, "The entry": "House 15
-- bits (1-32,767)", the first of an entry.
use Rattle.std.specs.Prelude.{ℕ, cond, List, [], ◌∷◌, eqb}
use Rattle.entry.specs.Entry.{entry_of}
use Rattle.runs.specs.Run.{house_in}
use Rattle.run_theorems.specs.Runs.{Line}

-- the lines of a list that are a house's
unfoldable pub lines_of : (house : ℕ) → List Line → List Line
lines_of house [] = []
lines_of house (l ∷ ls) = cond (eqb l.house house) (l ∷ lines_of house ls) (lines_of house ls)

-- those whose octets begin with a house's fifteen bits
unfoldable pub lines_under : (house : ℕ) → List Line → List Line
lines_under house [] = []
lines_under house (l ∷ ls) =
    cond (eqb (house_in (entry_of l.house l.kept)) house) (l ∷ lines_under house ls) (lines_under house ls)

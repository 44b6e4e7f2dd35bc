-- Calls one after the other, in any mixture and for any houses, and the run that a host keeps of them.
use Rattle.std.specs.Prelude.{ℕ, Bool, true, cond, ◌&&◌, List, [], ◌∷◌, ◌++◌, eqb}
use Rattle.run_theorems.specs.Runs.{Line}
use Rattle.quay.specs.Shown.{Call, number, kept_of, record_of}

-- every one answered 0
unfoldable pub all_zero : List Call → Bool
all_zero [] = true
all_zero (c ∷ cs) = eqb (number c) 0 && all_zero cs

-- what each reported, joined with nothing between
unfoldable pub kept_of_all : List Call → List ℕ
kept_of_all [] = []
kept_of_all (c ∷ cs) = kept_of c ++ kept_of_all cs

-- a call's house and record, as a line of a list
unfoldable pub line_of : Call → Line
line_of c = record { house = c.house; kept = record_of c }

unfoldable pub lines_of_all : List Call → List Line
lines_of_all [] = []
lines_of_all (c ∷ cs) = line_of c ∷ lines_of_all cs

-- the calls of one house
unfoldable pub calls_of : (house : ℕ) → List Call → List Call
calls_of house [] = []
calls_of house (c ∷ cs) = cond (eqb c.house house) (c ∷ calls_of house cs) (calls_of house cs)

-- What is left to do behind the file's own head, whose value stands at a stretch.
use Rattle.std.specs.Prelude.{ℕ, suc, cond, List, eqb, take}
use Rattle.refusal.specs.Outcome.{or_else}
use Rattle.tlv.specs.declared.Stretch.{Stretch}
use Rattle.tlv.specs.Read.{Read, value, and_then, checked}
use Rattle.tlv.specs.Cut.{end_check}
use Rattle.tree.specs.Inner.Passed.{counting}
use Rattle.inside.specs.Templates.{count_check}

-- how many elements the file has
unfoldable pub elements_in : (group : ℕ) → List ℕ → Stretch → Read ℕ
elements_in group s v = cond (eqb group 13) (value 1) (and_then (counting 7 (take v.to s) v.from) (λ (n : ℕ). value (suc n)))

-- the last checks, and the number of elements
unfoldable pub behind_all : (group : ℕ) → List ℕ → Stretch → (elements : ℕ) → Read ℕ
behind_all group s v n = checked (or_else (end_check s v.to) (count_check group s v.from)) (value n)

unfoldable pub behind_head : (group : ℕ) → List ℕ → Stretch → Read ℕ
behind_head group s v = and_then (elements_in group s v) (behind_all group s v)

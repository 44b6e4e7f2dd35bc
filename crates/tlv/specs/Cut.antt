-- A stretch of lent octets: what stands in it, how many there are, and that nothing follows.
use Rattle.std.specs.Prelude.{ℕ, ◌+◌, ◌-◌, Bool, List, eqb, length, take, drop}
use Rattle.refusal.specs.Outcome.{Outcome, unless}
use Rattle.tlv.specs.declared.Stretch.{Stretch}

unfoldable pub cut : List ℕ → Stretch → List ℕ
cut s v = take (v.to - v.from) (drop v.from s)

-- a value of so many octets
unfoldable pub has_octets : ℕ → Stretch → Bool
has_octets n v = eqb (v.from + n) v.to

-- nothing follows: else 10 at the first octet left over
unfoldable pub end_check : List ℕ → ℕ → Outcome
end_check s at = unless (eqb at (length s)) 10 at

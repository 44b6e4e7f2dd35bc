-- No words of the paper: what the code of stage 4 answers, beside the definitions. The entries are walked once, and what was seen
-- of them is kept: how many, where the first repeated integer stands, and for each group where its digest begins.
use Rattle.std.specs.Prelude.{ℕ, zero, suc, ◌+◌, Bool, cond, Option, Some, None, List, [], ◌∷◌, eqb, leb, get_or, set, replicate}
use Rattle.std.specs.Option.{option_or}
use Rattle.refusal.specs.Numbers.{by}
use Rattle.refusal.specs.Outcome.{Outcome, passed, refused, unless, or_else}
use Rattle.tlv.specs.Read.{Read, value, and_then}
use Rattle.object.specs.declared.entries.Seen.{Seen}
use Rattle.object.specs.declared.Object.{Object}
use Rattle.object.specs.Object as O
use Rattle.object.specs.Object.{digest_for}

-- ---- what was seen of the entries

abbrev pub none : Seen
none = record { count = 0; repeated = None; digests = replicate 17 0 }

-- whether a group's number was seen before
unfoldable pub is_new : Seen → ℕ → Bool
is_new t group = eqb (get_or t.digests group 0) 0

-- one entry more: the first digest of a group is kept, and the first integer that repeats another
unfoldable pub counted : Seen → O.GroupHash → Seen
counted t e =
    cond (is_new t e.group) (record {
      count = t.count + 1;
      repeated = t.repeated;
      digests = set t.digests e.group
          e.digest;
    })
    (record { count = t.count + 1; repeated = option_or t.repeated (Some e.place); digests = t.digests })

unfoldable pub tallied : Seen → List O.GroupHash → Seen
tallied t [] = t
tallied t (e ∷ es) = tallied (counted t e) es

-- what was seen when the entries from a place on are walked too
unfoldable pub tally_from : List ℕ → ℕ → Seen → Read Seen
tally_from s at t = and_then (O.entries s at) (λ es. value (tallied t es))

-- the tests after all entries
unfoldable pub once_of : Option ℕ → Outcome
once_of None = passed
once_of (Some place) = refused (by 12) place

unfoldable pub seen_check : Seen → ℕ → Outcome
seen_check t at = or_else (once_of t.repeated) (unless (leb 2 t.count) 12 at)

-- ---- the whole object

-- where the digests of so many groups begin
unfoldable pub digests_from : ℕ → ℕ → List O.GroupHash → List ℕ
digests_from zero group es = []
digests_from (suc more) group es = digest_for group es ∷ digests_from more (suc group) es

-- for each group from 0 to 16 where its digest begins, 0 where it has no entry
unfoldable pub table_of : O.Said → List ℕ
table_of x = digests_from 17 0 x.entries

-- what is kept of what an object says: the table, and the version
unfoldable pub kept_of : O.Said → Object
kept_of x = record { digests = table_of x; version = x.version }

unfoldable pub kept : Read O.Said → Read Object
kept m = and_then m (λ x. value (kept_of x))

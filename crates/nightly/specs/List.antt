-- The store's nightly list: document 02, request 2026-14, whose words are those in quotes. What an entry is says document 01,
-- "The entry".
use Rattle.std.specs.Prelude.{ℕ, zero, suc, cond, List, [], ◌∷◌, eqb, leb, length}
use Rattle.refusal.specs.Numbers.{by}
use Rattle.refusal.specs.Outcome.{unless}
use Rattle.tlv.specs.declared.Stretch.{Stretch}
use Rattle.tlv.specs.Read.{Read, value, refusal, and_then, checked}
use Rattle.runs.specs.Run.{Onward, next, none, refused, read_entry}
use Rattle.nightly.specs.declared.place.Place.{Place}
use Rattle.nightly.specs.Key.{key_at, is_below}

-- ---- its entries

-- where an entry stands, and whose it is; 18 where none does
unfoldable pub stands_at : Onward → (house at : ℕ) → Read Place
stands_at (next end) house at = value (record { start = at; end = end; house = house })
stands_at none house at = refusal (by 18) at
stands_at (refused why place) house at = refusal why place

-- "18, then 23 (order) at the entry whose key is not above the one before"; the first has none before it
unfoldable pub entry_at : List ℕ → (before : List ℕ) → ℕ → Read Place
entry_at w before at =
    and_then (stands_at (read_entry w at).onward (read_entry w at).house at) (λ p.
    checked (unless (is_below before (key_at w at)) 23 at) (value p))

-- "per entry from the left", here at most so many steps, of which the last finds the end
unfoldable pub entries_from : ℕ → List ℕ → (before : List ℕ) → ℕ → Read (List Place)
entries_from zero w before at = refusal (by 18) at
entries_from (suc more) w before at =
    cond (leb (length w) at) (value [])
    (and_then (entry_at w before at) (λ p.
    and_then (entries_from more w (key_at w at) p.end) (λ rest. value (p ∷ rest))))

-- no entry is empty, so that there are no more of them than octets
unfoldable pub entries : List ℕ → Read (List Place)
entries w = entries_from (suc (length w)) w [] 0

-- "Accept the list exactly when it is a run of entries and each key is below the next": their number, or the refusal
unfoldable pub look_over : List ℕ → Read ℕ
look_over w = and_then (entries w) (λ ps. value (length ps))

-- ---- those of a house

unfoldable pub own_of : (house : ℕ) → List Place → List Place
own_of house [] = []
own_of house (p ∷ ps) = cond (eqb p.house house) (p ∷ own_of house ps) (own_of house ps)

-- where the last of them ends
unfoldable pub last_end : ℕ → List Place → ℕ
last_end end [] = end
last_end end (p ∷ ps) = last_end p.end ps

-- the stretch from the first of them to the last, empty where there are none
unfoldable pub stretch_over : List Place → Stretch
stretch_over [] = record { from = 0; to = 0 }
stretch_over (p ∷ ps) = record { from = p.start; to = last_end p.end ps }

-- "the stretch of the list that holds its entries: all of them, no other house's, and empty where it has none or the list is
-- refused"
unfoldable pub stretch_in : (house : ℕ) → Read (List Place) → Stretch
stretch_in house (value ps) = stretch_over (own_of house ps)
stretch_in house (refusal why place) = record { from = 0; to = 0 }

unfoldable pub house_stretch : List ℕ → (house : ℕ) → Stretch
house_stretch w house = stretch_in house (entries w)

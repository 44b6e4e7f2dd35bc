-- What one pass over a list saw: how many entries, and of a house the stretch, which grows with each of its entries.
use Rattle.std.specs.Prelude.{ℕ, ◌+◌, cond, List, [], ◌∷◌, eqb, length}
use Rattle.tlv.specs.declared.Stretch.{Stretch}
use Rattle.tlv.specs.Read.{Read, value, refusal}
use Rattle.nightly.specs.declared.place.Place.{Place}
use Rattle.nightly.specs.declared.walk.Seen.{Seen}
use Rattle.nightly.specs.List.{entries}

unfoldable pub grown : (house : ℕ) → Stretch → Place → Stretch
grown house v p =
    cond (eqb p.house house)
    (cond (eqb v.to 0) (record { from = p.start; to = p.end }) (record { from = v.from; to = p.end })) v

unfoldable pub grown_over : (house : ℕ) → Stretch → List Place → Stretch
grown_over house v [] = v
grown_over house v (p ∷ ps) = grown_over house (grown house v p) ps

-- what was seen before, and what is left to see
unfoldable pub seen_of : (house n : ℕ) → Stretch → Read (List Place) → Read Seen
seen_of house n v (value ps) = value (record { entries = n + length ps; own = grown_over house v ps })
seen_of house n v (refusal why place) = refusal why place

unfoldable pub walked : List ℕ → (house : ℕ) → Read Seen
walked w house = seen_of house 0 (record { from = 0; to = 0 }) (entries w)

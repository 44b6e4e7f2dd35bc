-- Demand 3 for the key: what two houses and records have in common whose entries begin with the same thirty bytes. Document 01,
-- "The entry": "House 15 bits; form 3; state 18; number 132, filled up with `<`; birth 36; expiry 36: thirty bytes, the key".
use Rattle.std.specs.Prelude.{ℕ, ◌≡◌, List, take, false}
use Rattle.zone.specs.declared.record.Record.{Record}
use Rattle.zone.specs.Part.{Part, own, same}
use Rattle.zone.specs.Record.{held}
use Rattle.entry.specs.Entry.{entry_of}

-- the thirty bytes with which an entry begins
unfoldable pub key_of : ℕ → Record → List ℕ
key_of house r = take 30 (entry_of house r)

-- the complete document number, also a long one: "Keying on the nine number characters alone" is an error
unfoldable pub whole_number : Record → List ℕ
whole_number r = take r.number_len r.number

-- house h with record r, and house k with record q
pub record SameKey (h : ℕ) (r : Record) (k : ℕ) (q : Record) : Type 0 where
  pub same_house : h ≡ k
  pub same_form : r.form ≡ q.form
  pub same_state : r.state ≡ q.state
  pub same_number : whole_number r ≡ whole_number q
  pub same_birth : r.birth ≡ q.birth
  pub same_expiry : r.expiry ≡ q.expiry

-- two records that agree in all that they hold but in the issuer's own data (document 02, request 2026-06)
pub record ButForData (r q : Record) : Type 0 where
  pub alike_form : r.form ≡ q.form
  pub alike_held : (x : Part) → same x own ≡ false → held r x ≡ held q x
  pub other_data : held r own ≡ held q own → ⊥

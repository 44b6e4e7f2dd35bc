-- The entry that stands at a place of a list: what is answered by what the run's reader says there, and what was there where one
-- is answered.
use Prim.Native.Nat.{ℕ, ◌<◌}
use mathlib.Core.Path.{◌≡◌, ap, sym, ◌∙◌}
use mathlib.Core.Bool.{true, false}
use mathlib.Core.List.{List}
use Rattle.refusal.specs.Numbers.{Why, by}
use Rattle.refusal.specs.Outcome.{unless}
use Rattle.refusal.proofs.Outcomes.{unless_kept}
use Rattle.tlv.specs.Read.{value, refusal, and_then, checked}
use Rattle.tlv.proofs.Joined.{never_value, same_value, first_value, checked_value}
use Rattle.runs.specs.Run.{Onward, next, none, refused, read_entry}
use Rattle.runs.proofs.Onward.{next_behind}
use Rattle.nightly.specs.declared.place.Place.{Place}
use Rattle.nightly.specs.Key.{key_at, is_below}
use Rattle.nightly.specs.List.{stands_at, entry_at}

module _ (w before : List ℕ) (at : ℕ) where
  -- an entry whose key is above the one before
  pub entry_stands : (n : ℕ) → (read_entry w at).onward ≡ next n → is_below before (key_at w at) ≡ true
      → entry_at w before at ≡ value (record { start = at; end = n; house = (read_entry w at).house })
  unfolding entry_at stands_at and_then checked
  entry_stands n e above = rw (e, above)

  pub entry_not_above : (n : ℕ) → (read_entry w at).onward ≡ next n → is_below before (key_at w at) ≡ false
      → entry_at w before at ≡ refusal (by 23) at
  unfolding entry_at stands_at and_then checked
  entry_not_above n e above = rw (e, above)

  pub entry_none : (read_entry w at).onward ≡ none → entry_at w before at ≡ refusal (by 18) at
  unfolding entry_at stands_at and_then
  entry_none e = rw e

  pub entry_refused : (why : Why) (p : ℕ) → (read_entry w at).onward ≡ refused why p → entry_at w before at ≡ refusal why p
  unfolding entry_at stands_at and_then
  entry_refused why p e = rw e

-- what was there where an entry is answered
pub record Here (w before : List ℕ) (at : ℕ) (p : Place) : Type 0 where
  pub goes_on : (read_entry w at).onward ≡ next p.end
  pub same_place : p ≡ record { start = at; end = p.end; house = (read_entry w at).house }
  pub above : is_below before (key_at w at) ≡ true

stands_value : (o : Onward) (house at : ℕ) (p : Place) → stands_at o house at ≡ value p
    → (o ≡ next p.end) × (p ≡ record { start = at; end = p.end; house = house })
unfolding stands_at
stands_value (next n) house at p e =
    let same : record { start = at; end = n; house = house } ≡ p = same_value e in
    let end : n ≡ p.end = ap (λ (q : Place). q.end) same in
    (ap next end, sym same ∙ rw end)
stands_value none house at p e = absurd (never_value _ at p e)
stands_value (refused why place) house at p e = absurd (never_value why place p e)

pub entry_here : (w before : List ℕ) (at : ℕ) (p : Place) → entry_at w before at ≡ value p → Here w before at p
unfolding entry_at
entry_here w before at p e =
    let a = first_value (stands_at (read_entry w at).onward (read_entry w at).house at)
    (λ (q : Place). checked (unless (is_below before (key_at w at)) 23 at) (value q)) p e in
    let k = checked_value (unless (is_below before (key_at w at)) 23 at) (value a.0) p a.2 in
    let s = stands_value (read_entry w at).onward (read_entry w at).house at p (a.1 ∙ k.1) in
    record { goes_on = s.0; same_place = s.1; above = unless_kept _ 23 at k.0 }

-- it ends behind its start
pub entry_behind : (w before : List ℕ) (at : ℕ) (p : Place) → entry_at w before at ≡ value p → at < p.end
entry_behind w before at p e = next_behind w at p.end (entry_here w before at p e).goes_on

-- DEMAND 3, lengths: the entry of a sound record with a name of n characters and data of m has 283 + 6(n + m) bits rounded up to
-- bytes, 37 at n = 1 and m = 0 and 77 at n = 39 and m = 16, and no entry has fewer or more.
use Prim.Native.Nat.{ℕ, ◌+◌, ◌*◌, ◌/◌, ◌≤◌}
use mathlib.Core.Path.{◌≡◌}
use mathlib.Core.Bool.{true}
use native.Mathlib.Omega.{arith}
use lib.ListN.{length}
use Rattle.zone.specs.declared.record.Record.{Record}
use Rattle.sound.specs.Sound.{is_sound}
use Rattle.entry.specs.Entry.{entry_of, size}
use Rattle.sound.proofs.SoundRecord.{taken_apart}
use Rattle.entry.proofs.Values.{length_entry}

-- the formula itself, which the row of cells comes to
pub entry_formula : (r : Record) → size r ≡ (283 + 6 * (r.name_len + r.own_len) + 7) / 8
unfolding size
entry_formula r = omega arith

pub shortest_entry : (r : Record) → r.name_len ≡ 1 → r.own_len ≡ 0 → size r ≡ 37
unfolding size
shortest_entry r e d = rw (e, d)

pub longest_entry : (r : Record) → r.name_len ≡ 39 → r.own_len ≡ 16 → size r ≡ 77
unfolding size
longest_entry r e d = rw (e, d)

module _ (house : ℕ) (r : Record) (sound : is_sound r ≡ true) where
  pub entry_length : length (entry_of house r) ≡ size r
  entry_length = length_entry r (taken_apart r sound) house

  pub entry_bounds : (37 ≤ length (entry_of house r)) × (length (entry_of house r) ≤ 77)
  unfolding size
  entry_bounds =
      let o = taken_apart r sound in
      (rw entry_length (omega (arith, o.name_some)), rw entry_length (omega (arith, o.name_most, o.own_most)))

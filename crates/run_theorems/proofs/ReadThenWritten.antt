-- DEMAND 3, read and written again: where reading a run goes on, the octets that it passed over are the entry of the house and
-- the record that it answered, which are kept ones; so a reader takes exactly what a writer gives.
use Prim.Native.Nat.{ℕ, ◌+◌, ◌-◌, ◌≤◌}
use mathlib.Core.Path.{◌≡◌, refl, ap, sym, ◌∙◌}
use mathlib.Core.Bool.{Bool, true, false, cond, ◌&&◌}
use mathlib.Core.List.{List, ◌++◌}
use native.Mathlib.Omega.{arith}
use borrow.Author.Tests.{ltb-false}
use lib.Dec.{eqb, ltb}
use lib.ListN.{length, take, drop, length-drop, take-append-drop}
use lib.Seq.{take_at, drop-drop}
use Rattle.std.specs.Prelude.{Option, Some, None}
use Rattle.refusal.specs.Numbers.{Why}
use Rattle.lent.proofs.Bools.{and_both}
use Rattle.zone.specs.declared.form.Form.{Form}
use Rattle.zone.specs.declared.record.Record.{Record}
use Rattle.zone.specs.Record.{blank}
use Rattle.zone.specs.Octets.{is_octet, AreOctets}
use Rattle.zone.proofs.Every.{every_drop}
use Rattle.sound.specs.Sound.{is_sound}
use Rattle.sound.proofs.SoundRecord.{taken_apart}
use Rattle.cells.specs.Cells.{octets_of}
use Rattle.cells.proofs.RowOctets.{Whole, whole_told, whole_is, whole_length}
use Rattle.entry.specs.Row.{row, cells}
use Rattle.entry.specs.Entry.{entry_of, is_house}
use Rattle.runs.specs.Run.{Standing, next, none, refused, values_in, house_in}
use Rattle.runs.specs.Run.{form_in, record_in, size_in, is_whole, is_entry, entry_by}
use Rattle.runs.specs.Run.{no_entry, read_entry}
use Rattle.runs.proofs.ValuesBack.{values_back}
use Rattle.run_theorems.specs.Runs.{Passed}

record Tests (f : Form) (s : List ℕ) : Type 0 where
  house_kept : is_house (house_in s) ≡ true
  whole : Whole (cells row) s
  sound_kept : is_sound (record_in f s) ≡ true

tests : (f : Form) (s : List ℕ) → is_entry f s ≡ true → Tests f s
unfolding is_entry is_whole
tests f s e =
    let a = and_both (is_house (house_in s)) (is_whole s && is_sound (record_in f s)) e in
    let b = and_both (is_whole s) (is_sound (record_in f s)) a.1 in
    record { house_kept = a.0; whole = whole_told (cells row) s b.0; sound_kept = b.1 }

module _ (f : Form) (s : List ℕ) (told : form_in s ≡ Some f) (t : Tests f s) where
  -- the entry of what the octets say
  entry_said : entry_of (house_in s) (record_in f s) ≡ octets_of (cells row) (values_in s)
  unfolding entry_of
  entry_said = ap (octets_of (cells row)) (values_back f s told (taken_apart (record_in f s) t.sound_kept))

  entry_long : length (entry_of (house_in s) (record_in f s)) ≡ size_in s
  unfolding size_in
  entry_long = ap length entry_said ∙ whole_length (cells row) s

  octets_there : AreOctets s → take (size_in s) s ≡ entry_of (house_in s) (record_in f s)
  unfolding size_in
  octets_there small =
      let e = entry_of (house_in s) (record_in f s) in
      let parts : s ≡ e ++ drop (size_in s) s = whole_is (cells row) s t.whole small
      ∙ ap (λ (l : List ℕ). l ++ drop (size_in s) s) (sym entry_said) in
      ap (take (size_in s)) parts ∙ take_at e (drop (size_in s) s) (size_in s) entry_long

-- ---- reading at an offset

refused_not_next : (k : Why) (p n : ℕ) → refused k p ≡ next n → ⊥
refused_not_next k p n e = let z : ◌≡◌ {A = ℕ} 0 1 = cc in omega arith

none_not_next : (n : ℕ) → none ≡ next n → ⊥
none_not_next n e = let z : ◌≡◌ {A = ℕ} 0 1 = cc in omega arith

same_next : (m n : ℕ) → next m ≡ next n → m ≡ n
same_next m n e = cc

module _ (w : List ℕ) (at n : ℕ) (small : AreOctets w) (there : at ≤ length w) where
  passed_entry : (f : Form) → form_in (drop at w) ≡ Some f → is_entry f (drop at w) ≡ true
      → next (at + size_in (drop at w)) ≡ next n
      → Passed w at n (house_in (drop at w)) (record_in f (drop at w))
  unfolding size_in
  passed_entry f told e same =
      let s = drop at w in
      let t = tests f s e in
      let long = entry_long f s told t in
      let offset : at + size_in s ≡ n = same_next (at + size_in s) n same in
      let gap : n - at ≡ size_in s = omega arith in
      let fits : size_in s ≤ length w - at = rw (length-drop at w) at t.whole.long in
      record {
        house_kept = t.house_kept;
        record_kept = t.sound_kept;
        next_offset = omega arith;
        within = omega arith;
        octets_passed = rw gap (octets_there f s told t (every_drop is_octet at w small));
      }

  passed_by : (told : Option Form) → form_in (drop at w) ≡ told → (entry_by told (drop at w) at).onward ≡ next n
      → Passed w at n (entry_by told (drop at w) at).house (entry_by told (drop at w) at).kept
  unfolding entry_by no_entry
  passed_by None p e = absurd (refused_not_next _ at n e)
  passed_by (Some f) p e = go (is_entry f (drop at w)) refl e
    where
      answer : Bool → Standing
      answer x = cond x (record {
        onward = next (at + size_in (drop at w));
        house = house_in (drop at w);
        kept =
            record_in f (drop at w);
      }) (no_entry at)

      go : (x : Bool) → is_entry f (drop at w) ≡ x → (answer x).onward ≡ next n → Passed w at n (answer x).house (answer x).kept
      go true q h = passed_entry f p q h
      go false q h = absurd (refused_not_next _ at n h)

pub passed_over : (w : List ℕ) (at n : ℕ) → AreOctets w → (read_entry w at).onward ≡ next n
    → Passed w at n (read_entry w at).house (read_entry w at).kept
unfolding read_entry no_entry
passed_over w at n small e = go (eqb at (length w)) (ltb (length w) at) refl e
  where
    answer : Bool → Bool → Standing
    answer a b = cond a (record { onward = none; house = 0; kept = blank })
        (cond b (no_entry at) (entry_by (form_in (drop at w)) (drop at w) at))

    go : (a b : Bool) → ltb (length w) at ≡ b → (answer a b).onward ≡ next n → Passed w at n (answer a b).house (answer a b).kept
    go true b q h = absurd (none_not_next n h)
    go false true q h = absurd (refused_not_next _ at n h)
    go false false q h = passed_by w at n small (ltb-false (length w) at q) (form_in (drop at w)) refl h

-- what was passed over, and what follows it
pub passed_there : (w : List ℕ) (at n h : ℕ) (r : Record) → Passed w at n h r → drop at w ≡ entry_of h r ++ drop n w
passed_there w at n h r p =
    let offset = p.next_offset in
    let gap : at + (n - at) ≡ n = omega arith in
    sym (take-append-drop (n - at) (drop at w)) ∙ rw (p.octets_passed, drop-drop (n - at) at w, gap)

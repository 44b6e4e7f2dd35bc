-- What a C host may rely on of `lamphudet_write_text`: 0 exactly when exactly one entry is lent and the range has room, and then
-- the text of its record stands in it; and 17 never.
use Prim.Native.Nat.{ℕ, ◌+◌, ◌≤◌}
use mathlib.Core.Path.{◌≡◌, refl, ap, sym, ◌∙◌}
use mathlib.Core.Logic.{◌↔◌, ◌⊎◌, inl, inr}
use mathlib.Core.Bool.{Bool, true, false, cond, false≢true}
use mathlib.Core.List.{List, [], ◌++◌, append-nil}
use native.Mathlib.Nat.{zero-add}
use native.Mathlib.Omega.{arith}
use borrow.Author.Tests.{eq-eqb, eqb-true, le-leb, leb-true}
use lib.Dec.{leb}
use lib.ListN.{length, drop}
use lib.Seq.{drop-length}
use Rattle.refusal.specs.Numbers.{by}
use Rattle.refusal.specs.Length as told
use Rattle.zone.specs.declared.record.Record.{Record}
use Rattle.zone.specs.Form.{total}
use Rattle.zone.specs.Octets.{AreOctets}
use Rattle.sound.specs.Sound.{is_sound}
use Rattle.writing.specs.Text.{text_of}
use Rattle.writing.specs.Answer.{text_answer, text_out}
use Rattle.entry.specs.Entry.{entry_of, is_house}
use Rattle.runs.specs.Run.{Onward, next, none, refused, read_entry}
use Rattle.border.specs.Answer.{in_c}
use Rattle.as_entry.specs.Written.{is_only, written_answer, written_out}
use Rattle.text_theorems.proofs.RoundTrip.{text_length}
use Rattle.run_theorems.specs.Runs.{Line, is_kept}
use Rattle.run_theorems.specs.Entered.{Leaves}
use Rattle.run_theorems.specs.Expected.{number_told}
use Rattle.run_theorems.proofs.ListReadBack.{kept_both}
use Rattle.run_theorems.proofs.OneAnswer.{goes_on_exactly}
use Rattle.run_theorems.proofs.WrittenThenRead.{read_where_stands}
use Rattle.demands.specs.OneEntry.{OneEntry}
use Rattle.demands.proofs.NumbersInC.{number_in_c}

-- ---- the entry of a house and a record

abbrev room_told : (room : Bool) → ℕ
room_told room = cond room 0 16

room_told_lem : (b : Bool) → room_told b ≡ 0 → b ≡ true
room_told_lem true e = refl
room_told_lem false e = absurd (omega (arith, e))

module _ (h : ℕ) (r : Record) (house : is_house h ≡ true) (sound : is_sound r ≡ true) (out : List ℕ) where
  pub alone : read_entry (entry_of h r) 0 ≡ record { onward = next (0 + length (entry_of h r)); house = h; kept = r }
  alone = read_where_stands h r house sound (entry_of h r) 0 [] (sym (append-nil (entry_of h r)))

  written_as : written_answer (entry_of h r) out ≡ text_answer r out
  unfolding written_answer is_only
  written_as = rw (alone, eq-eqb (0 + length (entry_of h r)) (length (entry_of h r)) (zero-add (length (entry_of h r))))

  left_as : written_out (entry_of h r) out ≡ text_out r out
  unfolding written_out is_only
  left_as = rw (alone, eq-eqb (0 + length (entry_of h r)) (length (entry_of h r)) (zero-add (length (entry_of h r))))

  entry_number : (in_c (written_answer (entry_of h r) out)).number ≡ room_told (leb (total r.form) (length out))
  unfolding text_answer
  entry_number = number_in_c (written_answer (entry_of h r) out) ∙ rw (written_as, sound) (go (leb (total r.form) (length out)))
    where
      go : (b : Bool) → number_told (cond b (told.written (total r.form)) (told.refused (by 16) 0)) ≡ room_told b
      go true = refl
      go false = refl

  -- with 0 the text of the record stands in front of the range
  pub write_text_leaves : (in_c (written_answer (entry_of h r) out)).number ≡ 0
      → Leaves (text_of r) out (in_c (written_answer (entry_of h r) out)).value (written_out (entry_of h r) out)
  unfolding in_c text_answer text_out
  write_text_leaves e =
      let fits = room_told_lem (leb (total r.form) (length out)) (sym entry_number ∙ e) in
      let long = text_length r sound in
      record { told = rw (written_as, sound, fits) (sym long); in_front = rw (left_as, sound, fits, long) }

-- ---- any octets

module _ (e out : List ℕ) (small : AreOctets e) where
  pub one_entry : is_only (read_entry e 0).onward (length e) ≡ true → OneEntry e
  unfolding is_only
  one_entry only = go (read_entry e 0).onward refl only
    where
      go : (o : Onward) → (read_entry e 0).onward ≡ o → is_only o (length e) ≡ true → OneEntry e
      go none p q = absurd (false≢true q)
      go (refused why place) p q = absurd (false≢true q)
      go (next n) p q =
          let x = (goes_on_exactly e 0 small n).0 p in
          let entry = entry_of x.0.house x.0.kept in
          let end : drop n e ≡ [] = ap (λ (k : ℕ). drop k e) (eqb-true n (length e) q) ∙ drop-length e in
          (x.0, x.1, x.2 ∙ ap (λ (s : List ℕ). entry ++ s) end ∙ append-nil entry)

  pub only_sound : is_only (read_entry e 0).onward (length e) ≡ true → is_sound (read_entry e 0).kept ≡ true
  only_sound only =
      let x = one_entry only in
      let both = kept_both x.0 x.1 in
      let same = alone x.0.house x.0.kept both.0 both.1 out in
      ap (λ (s : List ℕ). is_sound (read_entry s 0).kept) x.2 ∙ ap (λ r. is_sound r.kept) same ∙ both.1

  -- the number is 0 or 16 of exactly one entry, and else 18
  abbrev Told : Type 0
  Told = ((x : OneEntry e) × ((in_c (written_answer e out)).number ≡ room_told (leb (total x.0.kept.form) (length out))))
      ⊎ ((in_c (written_answer e out)).number ≡ 18)

  told_of : Told
  unfolding written_answer in_c
  told_of = go (is_only (read_entry e 0).onward (length e)) refl
    where
      go : (b : Bool) → is_only (read_entry e 0).onward (length e) ≡ b → Told
      go false p = inr (rw p)
      go true p =
          let x = one_entry p in
          let both = kept_both x.0 x.1 in
          inl (
            x,
            ap (λ (s : List ℕ). (in_c (written_answer s out)).number) x.2
                ∙ entry_number x.0.house x.0.kept both.0 both.1 out,
          )

  pub octets_written_exactly : ((in_c (written_answer e out)).number ≡ 0)
      ↔ ((l : Line) × (is_kept l ≡ true) × (e ≡ entry_of l.house l.kept) × (total l.kept.form ≤ length out))
  octets_written_exactly = (λ q. forth q told_of, back)
    where
      forth : (in_c (written_answer e out)).number ≡ 0 → Told
          → (l : Line) × (is_kept l ≡ true) × (e ≡ entry_of l.house l.kept) × (total l.kept.form ≤ length out)
      forth q (inl (x, n)) =
          let fits = room_told_lem (leb (total x.0.kept.form) (length out)) (sym n ∙ q) in
          (x.0, x.1, x.2, leb-true (total x.0.kept.form) (length out) fits)
      forth q (inr n) = absurd (omega (arith, q, n))

      back : ((l : Line) × (is_kept l ≡ true) × (e ≡ entry_of l.house l.kept) × (total l.kept.form ≤ length out))
          → (in_c (written_answer e out)).number ≡ 0
      back (l, k, same, room) =
          let both = kept_both l k in
          ap (λ (s : List ℕ). (in_c (written_answer s out)).number) same
          ∙ entry_number l.house l.kept both.0 both.1 out
          ∙ ap room_told (le-leb (total l.kept.form) (length out) room)

  pub octets_no_17 : (in_c (written_answer e out)).number ≡ 17 → ⊥
  octets_no_17 q = go told_of
    where
      never : (b : Bool) → room_told b ≡ 17 → ⊥
      never true k = omega (arith, k)
      never false k = omega (arith, k)

      go : Told → ⊥
      go (inl (x, n)) = never (leb (total x.0.kept.form) (length out)) (sym n ∙ q)
      go (inr n) = omega (arith, q, n)

-- What a C host may rely on of `lamphudet_write_text` and then `lamphudet_read_text`: under the entry's house, which
-- `lamphudet_open_entry` tells, the text that was written gives the entry again.
use Prim.Native.Nat.{ℕ, ◌≤◌}
use mathlib.Core.Path.{◌≡◌, refl, sym, subst}
use mathlib.Core.Bool.{true}
use mathlib.Core.List.{List}
use lib.ListN.{length, take, drop}
use lib.Seq.{take-append_seam}
use Rattle.refusal.specs.Outcome.{passed}
use Rattle.zone.specs.declared.form.Source.TheVariants.{Alone}
use Rattle.zone.specs.declared.record.Record.{Record}
use Rattle.zone.specs.Octets.{AreOctets}
use Rattle.sound.specs.Sound.{is_sound}
use Rattle.sound.proofs.SoundRecord.{taken_apart}
use Rattle.text.specs.Read.{Answer, read_text}
use Rattle.writing.specs.Text.{text_of}
use Rattle.entry.specs.Entry.{entry_of, is_house}
use Rattle.entry.proofs.Values.{length_entry}
use Rattle.entry.proofs.Entered.{entered}
use Rattle.border.specs.Answer.{in_c}
use Rattle.as_entry.specs.Written.{written_answer, written_out}
use Rattle.lamphudet.specs.Calls.{read_answer, read_out}
use Rattle.as_entry.specs.Opened.{opened_in_c, record_in_c}
use Rattle.text_theorems.proofs.RoundTrip.{text_read_back}
use Rattle.run_theorems.specs.Entered.{Leaves}
use Rattle.run_theorems.proofs.ListReadBack.{kept_both}
use Rattle.demands.proofs.WriteInC.{write_text_leaves, octets_written_exactly}
use Rattle.demands.proofs.OpenInC.{entry_opened}

module _ (out back : List ℕ) where
  -- the octets that writing an entry reports, read
  abbrev read_again : List ℕ → Answer
  read_again e = read_text Alone (take (in_c (written_answer e out)).value (written_out e out))

  -- reading them under a house answers 0 and leaves the entry
  abbrev Again : (house : ℕ) (e : List ℕ) → Type 0
  Again house e = ((in_c (read_answer house (read_again e) back)).number ≡ 0)
      × Leaves e back (in_c (read_answer house (read_again e) back)).value (read_out house (read_again e) back)

  module _ (h : ℕ) (r : Record) (house : is_house h ≡ true) (sound : is_sound r ≡ true) where
    read_as : (in_c (written_answer (entry_of h r) out)).number ≡ 0
        → read_again (entry_of h r) ≡ record { outcome = passed; kept = r }
    read_as e =
        let l = write_text_leaves h r house sound out e in
        rw (l.told, l.in_front, take-append_seam (text_of r) (drop (length (text_of r)) out)) (text_read_back r sound)

    again : (in_c (written_answer (entry_of h r) out)).number ≡ 0 → length (entry_of h r) ≤ length back → Again h (entry_of h r)
    unfolding in_c read_answer read_out
    again e room =
        let long = length_entry r (taken_apart r sound) h in
        let w = entered h r back passed (record { read = refl; housed = house; sound = sound; room = rw (← long) room }) in
        rw (read_as e, w.0) (refl, record { told = sym long; in_front = rw long w.1 })

  pub octets_again : (e : List ℕ) → AreOctets e → (in_c (written_answer e out)).number ≡ 0 → length e ≤ length back
      → Again (opened_in_c e).house e
  unfolding record_in_c
  octets_again e small zero room =
      let x = (octets_written_exactly e out small).0 zero in
      let both = kept_both x.0 x.1 in
      let h = x.0.house in
      let r = x.0.kept in
      subst (λ (s : List ℕ). (in_c (written_answer s out)).number ≡ 0 → length s ≤ length back → Again (opened_in_c s).house s)
      (sym x.2) (λ z k. rw (entry_opened x.0 x.1) (again h r both.0 both.1 z k)) zero room

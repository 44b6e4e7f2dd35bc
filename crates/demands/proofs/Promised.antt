-- What a C host may rely on, of what the calls promise (specs/Promised): that what was lent is octets is among it, so that
-- nothing is left for a host to show.
use Prim.Native.Nat.{ℕ, ◌+◌, ◌≤◌}
use mathlib.Core.Path.{◌≡◌, ap, ◌∙◌}
use mathlib.Core.Logic.{◌↔◌}
use mathlib.Core.Bool.{true}
use mathlib.Core.List.{List, ◌++◌}
use lib.ListN.{length, take, drop}
use Rattle.zone.specs.Record.{blank}
use Rattle.zone.specs.Form.{total}
use Rattle.refusal.specs.Numbers.{Why}
use Rattle.refusal.specs.Calls.{of_text_writer_in_c}
use Rattle.chip.specs.Presentation.{read_presentation}
use Rattle.entry.specs.Entry.{entry_of}
use Rattle.border.specs.declared.received.AnswerInC.{AnswerInC}
use Rattle.as_entry.specs.declared.received.RecordInC.{RecordInC}
use Rattle.border.specs.declared.received.StretchInC.{StretchInC}
use Rattle.border.specs.Answer.{refused_in_c}
use Rattle.border.specs.Calls.{stretch_in_c}
use Rattle.as_entry.specs.Opened.{opened_in_c, record_in_c}
use Rattle.tree.specs.Tree.{Tree, tree_octets, elements}
use Rattle.text_theorems.specs.Ordered.{FirstFailing}
use Rattle.inside_theorems.specs.Whole.{Whole}
use Rattle.inside_theorems.specs.InsideChecks.{inside_checks}
use Rattle.presentation_theorems.specs.Presented.{Contents, Presented, Lent, Outside, octets_of}
use Rattle.presentation_theorems.proofs.GroupFile.{group_refused}
use Rattle.run_theorems.specs.Runs.{Line, is_kept}
use Rattle.run_theorems.specs.Entered.{Allowed, Leaves}
use Rattle.run_theorems.specs.EveryCall.{AnswersInC}
use Rattle.run_theorems.proofs.OneAnswer.{goes_on_exactly}
use Rattle.demands.specs.OneEntry.{OneEntry}
use Rattle.demands.specs.Promised.{ReadsText, ReadsPresentation, WritesText, OpensEntry, NextEntry, FindsFile}
use Rattle.demands.specs.Promised.{LooksInside}
use Rattle.demands.proofs.ReadInC.{octets_read_exactly}
use Rattle.demands.proofs.WriteInC.{octets_written_exactly, octets_no_17}
use Rattle.demands.proofs.AgainInC.{octets_again}
use Rattle.demands.proofs.EveryCall.{octets_answers, open_answers}
use Rattle.demands.proofs.NextInC.{next_told}
use Rattle.demands.proofs.LookInC.{octets_looked, look_refused}
use Rattle.demands.proofs.OpenInC.{entry_opened, octets_opened_exactly}

-- ---- a presentation read

module _ (house : ℕ) (w out : List ℕ) (r : AnswerInC) (after : List ℕ) (call : ReadsPresentation house w out r after) where
  pub read_presentation_exactly : (r.number ≡ 0)
      ↔ Allowed ((p : Contents) × (w ≡ octets_of p) × Presented p) house (read_presentation w).kept out
  read_presentation_exactly = rw call.answers (octets_read_exactly house w out call.octets)

-- ---- a text written

module _ (e out : List ℕ) (r : AnswerInC) (after : List ℕ) (call : WritesText e out r after) where
  pub write_text_exactly : (r.number ≡ 0)
      ↔ ((l : Line) × (is_kept l ≡ true) × (e ≡ entry_of l.house l.kept) × (total l.kept.form ≤ length out))
  write_text_exactly = rw call.answers (octets_written_exactly e out call.octets)

  pub write_text_no_17 : r.number ≡ 17 → ⊥
  write_text_no_17 = rw call.answers (octets_no_17 e out call.octets)

  pub write_text_answers : AnswersInC of_text_writer_in_c (length e) out r.number r.value after
  write_text_answers = rw (call.answers, call.leaves) (octets_answers e out call.octets)

-- ---- an entry opened

module _ (e : List ℕ) (r : RecordInC) (call : OpensEntry e r) where
  pub open_exactly : (r.number ≡ 0) ↔ OneEntry e
  open_exactly = rw call.answers (octets_opened_exactly e call.octets)

  -- then that house and that record come out
  pub open_tells : (l : Line) → is_kept l ≡ true → e ≡ entry_of l.house l.kept → r ≡ record_in_c 0 l.house l.kept
  open_tells l kept same = call.answers ∙ ap opened_in_c same ∙ entry_opened l kept

  pub open_refused : (OneEntry e → ⊥) → r ≡ record_in_c 18 0 blank
  open_refused other =
      call.answers ∙ open_answers e (λ zero. other ((octets_opened_exactly e call.octets).0 zero))

-- ---- a run

module _ (w : List ℕ) (at : ℕ) (r : AnswerInC) (call : NextEntry w at r) where
  -- 0 and another offset than 0: the entry of a house and a sound record stands at the offset asked for, and ends at that one
  pub next_exactly : (n : ℕ) → (n ≡ 0 → ⊥)
      → ((r.number ≡ 0) × (r.value ≡ n))
      ↔ ((l : Line) × (is_kept l ≡ true) × (drop at w ≡ entry_of l.house l.kept ++ drop n w) ×
      (n ≡ at + length (entry_of l.house l.kept)))
  next_exactly n some =
      let told = next_told w at n some in
      let stands = goes_on_exactly w at call.octets n in
      rw call.answers (λ h. stands.0 (told.0 h), λ x. told.1 (stands.1 x))

-- ---- the file of a group

module _ (w : List ℕ) (group : ℕ) (r : StretchInC) (call : FindsFile w group r) where
  -- 0 and 0 where what was lent is not EF.COM, the security object and files of groups
  pub group_file_refused : ((c d : List ℕ) (ls : List Lent) → Outside w c d ls → ⊥) → r ≡ record { start = 0; length = 0 }
  unfolding stretch_in_c
  group_file_refused other = call.answers ∙ ap stretch_in_c (group_refused w group call.octets other)

-- ---- the inside of a file

module _ (s : List ℕ) (r : AnswerInC) (call : LooksInside s r) where
  -- 0 and a number: these octets are the encoding of a whole file's tree, which has so many elements
  pub look_inside_exactly : (n : ℕ)
      → ((r.number ≡ 0) × (r.value ≡ n)) ↔ ((t : Tree) × (s ≡ tree_octets t) × Whole t × (n ≡ elements t))
  look_inside_exactly n = rw call.answers (octets_looked s call.octets n)

  pub look_inside_refused : (why : Why) (p : ℕ) → FirstFailing (inside_checks s) why p → r ≡ refused_in_c why p
  look_inside_refused why p h = call.answers ∙ look_refused s why p h

-- ---- a text written, and then read under the house that opening the entry tells

module _ (e out : List ℕ) (w : AnswerInC) (text : List ℕ) (writes : WritesText e out w text) (o : RecordInC)
    (opens : OpensEntry e o) (back : List ℕ) (r : AnswerInC) (entry : List ℕ)
    (reads : ReadsText o.house (take w.value text) back r entry) where
  pub entry_again : w.number ≡ 0 → length e ≤ length back → (r.number ≡ 0) × Leaves e back r.value entry
  entry_again = rw (reads.answers, reads.leaves, opens.answers, writes.answers, writes.leaves)
      (octets_again out back e writes.octets)

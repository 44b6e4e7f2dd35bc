-- DEMAND 2, the answer: reading a presentation answers `refused n p` exactly where n at p is the first failing check in the
-- paper's order (`presentation_refused_exactly`).
use Prim.Native.Nat.{ℕ}
use mathlib.Core.Path.{◌≡◌, refl, ap, sym, ◌∙◌}
use mathlib.Core.Logic.{◌↔◌}
use mathlib.Core.Bool.{Bool, true, false, not, ◌&&◌}
use mathlib.Core.List.{List, [], ◌∷◌, ◌++◌, map}
use lib.Dec.{leb, ltb}
use lib.ListN.{length, take}
use Rattle.refusal.specs.Numbers.{Why}
use Rattle.refusal.specs.Outcome.{Outcome, passed, refused, or_else, unless}
use Rattle.refusal.proofs.Outcomes.{both_passed}
use Rattle.zone.specs.declared.form.Source.TheVariants.{GroupOne}
use Rattle.zone.specs.declared.record.Record.{Record}
use Rattle.lent.specs.Octets.{alike, stands}
use Rattle.text.specs.Read.{read_text}
use Rattle.tlv.specs.Read.{Read, value, outcome_in}
use Rattle.tlv.specs.Cut.{cut}
use Rattle.tlv.specs.Tags as Tag
use Rattle.tlv.specs.Versions.{both, lds18}
use Rattle.tlv.proofs.Joined.{value_then}
use Rattle.efcom.specs.EfCom.{read_ef_com}
use Rattle.efcom.specs.declared.Common.{Common}
use Rattle.object.specs.declared.strings.Version.{Version}
use Rattle.object.specs.declared.strings.Version.TheVariants.{Zero, One}
use Rattle.object.specs.Object.{GroupHash, Said, digest_for, read_object}
use Rattle.outer.specs.declared.Outer.{Outer}
use Rattle.outer.specs.Outer.{size_check, files, outer, walked}
use Rattle.chip.specs.Versions.{agrees, versions_check}
use Rattle.chip.specs.Files.{files_check}
use Rattle.chip.specs.Presentation.{group_one, decided, read_stages, read_presentation}
use Rattle.text_theorems.specs.Ordered.{FirstFailing}
use Rattle.text_theorems.proofs.FirstOf.{first_of, first_failing, failing_first}
use Rattle.row_theorems.specs.Standing.{coded, each}
use Rattle.presentation_theorems.specs.EfComChecks.{common, ef_com_checks}
use Rattle.presentation_theorems.specs.ObjectChecks.{sequence_bytes, places_in, entries_place, entries_in, version_of}
use Rattle.presentation_theorems.specs.ObjectChecks.{object_checks}
use Rattle.presentation_theorems.specs.PresentationChecks.{ef_com, object, lent_file, file_places, group_checks, outer_checks}
use Rattle.presentation_theorems.specs.PresentationChecks.{versions_checks, files_checks, group_one_checks}
use Rattle.presentation_theorems.specs.PresentationChecks.{presentation_checks}
use Rattle.presentation_theorems.proofs.Expected.{answer_outcome}
use Rattle.row_theorems.proofs.Rows.{under, under_outcome, under_passed, under_same, keep, rows_then, first_then}
use Rattle.row_theorems.proofs.Rows.{step_known, step_then, element_then}
use Rattle.presentation_theorems.proofs.EfComRows.{efcom_rows}
use Rattle.presentation_theorems.proofs.ObjectRows.{object_rows}
use Rattle.presentation_theorems.proofs.FilesRows.{files_rows, has_entry, signed_rows}
use Rattle.presentation_theorems.proofs.GroupOneRows.{text_in, group_one_rows}

-- ---- after stage 4

versions_rows : (w : List ℕ) (start : ℕ) (c : Common) (x : Version)
    → versions_check w start c x ≡ first_of (versions_checks w start c x)
unfolding versions_check agrees versions_checks first_of
versions_rows w start c Zero = single (not c.newer)
  where
    single : (a : Bool) → unless a 19 start ≡ or_else (unless a 19 start) passed
    single true = refl
    single false = refl
versions_rows w start c (One t) =
    three c.newer (alike (cut w t.lds) lds18) (alike (cut w t.unicode) (cut w c.unicode))
  where
    three : (a b d : Bool)
        → unless (a && (b && d)) 19 start
        ≡ or_else (unless a 19 start) (or_else (unless b 19 start) (or_else (unless d 19 start) passed))
    three true true true = refl
    three true true false = refl
    three true false d = refl
    three false b d = refl

module _ (w : List ℕ) where
  -- ---- stages 1 and 2

  abbrev pub parts : Outer
  parts = record { efcom = ef_com w; object = object w }

  abbrev files_at : List ℕ
  files_at = file_places w (object w).to

  abbrev pub outside_checks : List Outcome
  outside_checks = unless (leb (length w) 65535) 1 0 ∷ outer_checks w

  pub outer_rows : walked w ≡ under outside_checks (value parts)
  unfolding walked size_check outer outer_checks ef_com object under
  outer_rows =
      keep (unless (leb (length w) 65535) 1 0) (element_then w 0 Tag.ef_com _
      ∙ keep (coded w 0 Tag.ef_com) (element_then w (ef_com w).to Tag.sequence _
      ∙ keep (coded w (ef_com w).to Tag.sequence)
      (step_known (each (group_checks w) files_at) (files w (object w).to) (map (lent_file w) files_at) (λ all. value parts)
      (files_rows w (object w).to))))

  -- what was walked is not refused when it is walked again
  walked_again : first_of outside_checks ≡ passed → files w (object w).to ≡ value (map (lent_file w) files_at)
  unfolding outer_checks first_of
  walked_again e =
      let a = (both_passed (unless (leb (length w) 65535) 1 0) _ e).1 in
      let b = (both_passed (coded w 0 Tag.ef_com) _ a).1 in
      let c = (both_passed (coded w (ef_com w).to Tag.sequence) _ b).1 in
      files_rows w (object w).to ∙ under_passed (each (group_checks w) files_at) (value (map (lent_file w) files_at)) c

  -- ---- stages 3 to 6

  abbrev header : List ℕ
  header = take (ef_com w).to w

  abbrev security : List ℕ
  security = take (object w).to w

  abbrev said : Common
  said = common header (ef_com w).from

  abbrev tags : List ℕ
  tags = cut w said.tags

  abbrev hashes : List GroupHash
  hashes = entries_in security (entries_place security (object w).from)

  abbrev kept : Read Record
  kept = value (read_text GroupOne (text_in w files_at)).kept

  entered : (g : ℕ) → ltb 0 (digest_for g hashes) ≡ stands g (map (λ e. e.group) hashes)
  unfolding entries_in
  entered g =
      let at = entries_place security (object w).from in
      has_entry (sequence_bytes security at) (places_in security at) g

  abbrev version : Version
  version = version_of security (object w).from

  abbrev inside_checks : List Outcome
  inside_checks =
      ef_com_checks header (ef_com w).from
      ++ (object_checks security (object w).from
      ++ (versions_checks w (ef_com w).to said version
      ++ (files_checks w tags [] hashes files_at ++ group_one_checks w files_at)))

  decided_rows : files w (object w).to ≡ value (map (lent_file w) files_at)
      → decided both w parts ≡ under inside_checks kept
  unfolding decided read_ef_com read_object
  decided_rows e =
      let fs = map (lent_file w) files_at in
      let object_said : Said = record { entries = hashes; version = version } in
      step_then (ef_com_checks header (ef_com w).from) _ (read_ef_com both w (ef_com w)) said _ kept
      (efcom_rows header (ef_com w).from)
      (step_then (object_checks security (object w).from) _ (read_object both w (object w)) object_said _ kept
      (object_rows security (object w).from)
      (first_then (versions_check w (ef_com w).to said version) (versions_checks w (ef_com w).to said version) _ _ kept
      (versions_rows w (ef_com w).to said version)
      (value_then (files w (object w).to) _ fs _ e
      (first_then (files_check w tags [] hashes fs) (files_checks w tags [] hashes files_at) (group_one_checks w files_at)
      (group_one w fs) kept (signed_rows w tags hashes entered [] files_at) (group_one_rows w files_at)))))

  -- ---- all of them

  stages_rows : read_stages both w ≡ under (presentation_checks w) kept
  unfolding read_stages presentation_checks
  stages_rows =
      step_known outside_checks (walked w) parts (λ o. decided both w o) outer_rows
      ∙ under_same outside_checks (decided both w parts) (under inside_checks kept) (λ e. decided_rows (walked_again e))
      ∙ rows_then outside_checks inside_checks (under inside_checks kept) kept refl

  pub presentation_first : (read_presentation w).outcome ≡ first_of (presentation_checks w)
  unfolding read_presentation
  presentation_first =
      answer_outcome (read_stages both w) ∙ ap (λ (m : Read Record). outcome_in m) stages_rows
      ∙ under_outcome (presentation_checks w) (read_text GroupOne (text_in w files_at)).kept

pub presentation_refused_exactly : (w : List ℕ) (n : Why) (p : ℕ)
    → ((read_presentation w).outcome ≡ refused n p) ↔ FirstFailing (presentation_checks w) n p
presentation_refused_exactly w n p = (
  λ e. first_failing (presentation_checks w) n p (sym (presentation_first w) ∙ e),
  λ h. presentation_first w ∙ failing_first (presentation_checks w) n p h,
)

-- THE RECORD of an accepted presentation is that of an accepted text (`presentation_held`), and so sound (`presentation_sound`),
-- whatever numbers it was read from.
use Rattle.outer.specs.declared.File.{File}
use Prim.Native.Nat.{ℕ}
use mathlib.Core.Path.{◌≡◌, ap, sym, ◌∙◌}
use mathlib.Core.Bool.{true}
use mathlib.Core.List.{List, []}
use lib.ListN.{take}
use Rattle.refusal.specs.Outcome.{passed}
use Rattle.zone.specs.declared.form.Source.TheVariants.{GroupOne}
use Rattle.zone.specs.declared.record.Record.{Record}
use Rattle.text.specs.Read.{read_text}
use Rattle.sound.specs.Sound.{is_sound}
use Rattle.tlv.specs.declared.Stretch.{Stretch}
use Rattle.tlv.specs.Read.{value, checked}
use Rattle.tlv.specs.Element.{element}
use Rattle.outer.specs.declared.Outer.{Outer}
use Rattle.tlv.specs.Cut.{cut, end_check}
use Rattle.tlv.specs.Versions.{both}
use Rattle.outer.specs.Outer.{files, walked}
use Rattle.efcom.specs.EfCom.{read_ef_com}
use Rattle.object.specs.Object.{read_object}
use Rattle.chip.specs.Versions.{versions_check}
use Rattle.chip.specs.Files.{files_check}
use Rattle.group_text.specs.Text.{moved, text_at}
use Rattle.chip.specs.Presentation.{first_file, group_one, decided, read_stages, read_presentation}
use Rattle.text_theorems.proofs.RecordOfText.{kept_and_sound}
use Rattle.tlv.proofs.Joined.{first_value, checked_value}
use Rattle.presentation_theorems.proofs.GroupOne.{passed_moved}
use Rattle.presentation_theorems.proofs.Acceptance.{from_files, from_versions, from_object, from_common, passed_value}

-- a record that is read is that of an accepted text
text_held : (s : List ℕ) (at : ℕ) (r : Record) → text_at s at ≡ value r
    → (t : List ℕ) × ((read_text GroupOne t).outcome ≡ passed) × ((read_text GroupOne t).kept ≡ r)
unfolding text_at
text_held s at r e =
    let a = first_value (element s at 0x5F1F)
    (λ (u : Stretch). checked (end_check s u.to) (moved u.from (read_text GroupOne (cut s u)))) r e in
    let v = a.0 in
    let t = cut s v in
    let b = checked_value (end_check s v.to) (moved v.from (read_text GroupOne t)) r a.2 in
    let m = passed_moved v.from (read_text GroupOne t).outcome (read_text GroupOne t).kept r b.1 in
    (t, m.0, m.1)

group_held : (w : List ℕ) (fs : List File) (r : Record) → group_one w fs ≡ value r
    → (t : List ℕ) × ((read_text GroupOne t).outcome ≡ passed) × ((read_text GroupOne t).kept ≡ r)
unfolding group_one
group_held w fs r e =
    let a = first_value (first_file w 1 fs) (λ (f : File). text_at (take f.held.to w) f.held.from) r e in
    text_held (take a.0.held.to w) a.0.held.from r a.2

decided_held : (w : List ℕ) (o : Outer) (r : Record) → decided both w o ≡ value r
    → (t : List ℕ) × ((read_text GroupOne t).outcome ≡ passed) × ((read_text GroupOne t).kept ≡ r)
unfolding decided
decided_held w o r e =
    let a = first_value (read_ef_com both w o.efcom) (from_common w o) r e in
    let b = first_value (read_object both w o.object) (from_object w o a.0) r a.2 in
    let v = checked_value (versions_check w o.efcom.to a.0 b.0.version) (from_versions w o a.0 b.0) r b.2 in
    let c = first_value (files w o.object.to) (from_files w o a.0 b.0) r v.1 in
    let d = checked_value (files_check w (cut w a.0.tags) [] b.0.entries c.0) (group_one w c.0) r c.2 in
    group_held w c.0 r d.1

-- the record of an accepted presentation is that of an accepted text
pub presentation_held : (w : List ℕ) → (read_presentation w).outcome ≡ passed
    → (t : List ℕ) × ((read_text GroupOne t).outcome ≡ passed) × ((read_presentation w).kept ≡ (read_text GroupOne t).kept)
unfolding read_presentation read_stages
presentation_held w e =
    let a = passed_value (read_stages both w) e in
    let b = first_value (walked w) (λ (o : Outer). decided both w o) a.0 a.1 in
    let t = decided_held w b.0 a.0 b.2 in
    (t.0, t.1, a.2 ∙ sym t.2)

-- so it is sound
pub presentation_sound : (w : List ℕ) → (read_presentation w).outcome ≡ passed → is_sound (read_presentation w).kept ≡ true
presentation_sound w e = let h = presentation_held w e in ap is_sound h.2 ∙ (kept_and_sound GroupOne h.0 h.1).3

-- Reading a presentation is finding its text (`text_stretch`) and then reading it (`through_text`); and where the text stands
-- (`text_stands`).
use Prim.Native.Nat.{ℕ, ◌≤◌}
use mathlib.Core.Path.{◌≡◌, ap}
use mathlib.Core.List.{List, []}
use native.Mathlib.Omega.{arith}
use lib.ListN.{length, take, length-take}
use Rattle.zone.specs.declared.form.Source.TheVariants.{GroupOne}
use Rattle.zone.specs.declared.record.Record.{Record}
use Rattle.text.specs.Read.{read_text}
use Rattle.tlv.specs.declared.Stretch.{Stretch}
use Rattle.tlv.specs.Read.{Read, value, and_then, checked}
use Rattle.tlv.specs.Element.{element}
use Rattle.tlv.specs.Cut.{cut, end_check}
use Rattle.tlv.specs.Tags as Tag
use Rattle.tlv.proofs.Past.{value_within}
use Rattle.tlv.proofs.Joined.{first_value, checked_value, same_value}
use Rattle.tlv.specs.Versions.{both}
use Rattle.efcom.specs.EfCom.{read_ef_com}
use Rattle.object.specs.Object.{read_object}
use Rattle.outer.specs.Outer.{files, walked}
use Rattle.chip.specs.Versions.{versions_check}
use Rattle.chip.specs.Files.{files_check}
use Rattle.group_text.specs.Text.{moved, text_at}
use Rattle.chip.specs.Presentation.{first_file, group_one, decided, read_stages}
use Rattle.row_theorems.proofs.Behind.{then_behind, checked_behind}
use Rattle.presentation_theorems.specs.Expected.{text_stretch}
use Rattle.presentation_theorems.proofs.Elements.{cut_before}

cut_same : (w : List ℕ) (k : ℕ) (v : Stretch) → v.to ≤ k → v.from ≤ v.to → cut (take k w) v ≡ cut w v
unfolding cut
cut_same w k v a b = cut_before w k v.from v.to a b

module _ (w : List ℕ) where
  unfoldable pub onwards : Stretch → Read Record
  onwards v = moved v.from (read_text GroupOne (cut w v))

  text_behind : (k at : ℕ)
      → text_at (take k w) at
      ≡ and_then (and_then (element (take k w) at Tag.text) (λ v. checked (end_check (take k w) v.to) (value v))) onwards
  unfolding text_at onwards and_then
  text_behind k at = then_behind (element (take k w) at Tag.text) _ onwards _ (λ v e.
      let in-s = value_within (take k w) at Tag.text v e in
      checked_behind (end_check (take k w) v.to) (value v) onwards _
      (ap (λ (t : List ℕ). moved v.from (read_text GroupOne t)) (cut_same w k v (omega (arith, in-s.2, length-take k w))
      in-s.1)))

  pub through_text : read_stages both w ≡ and_then (text_stretch w) onwards
  unfolding text_stretch read_stages decided group_one
  through_text =
      then_behind (walked w) _ onwards _ (λ o e.
      then_behind (read_ef_com both w o.efcom) _ onwards _ (λ c f.
      then_behind (read_object both w o.object) _ onwards _ (λ x g.
      checked_behind (versions_check w o.efcom.to c x.version) _ onwards _
      (then_behind (files w o.object.to) _ onwards _ (λ fs h.
      checked_behind (files_check w (cut w c.tags) [] x.entries fs) _ onwards _
      (then_behind (first_file w 1 fs) _ onwards _ (λ file i. text_behind file.held.to file.held.from)))))))

-- the text stands in the presentation
pub text_stands : (w : List ℕ) (v : Stretch) → text_stretch w ≡ value v → (v.from ≤ v.to) × (v.to ≤ length w)
unfolding text_stretch
text_stands w v e =
    let a = first_value (walked w) _ v e in
    let b = first_value (read_ef_com both w a.0.efcom) _ v a.2 in
    let c = first_value (read_object both w a.0.object) _ v b.2 in
    let j = checked_value (versions_check w a.0.efcom.to b.0 c.0.version) _ v c.2 in
    let d = first_value (files w a.0.object.to) _ v j.1 in
    let g = checked_value (files_check w (cut w b.0.tags) [] c.0.entries d.0) _ v d.2 in
    let f = first_value (first_file w 1 d.0) _ v g.1 in
    let s = take f.0.held.to w in
    let h = first_value (element s f.0.held.from Tag.text) _ v f.2 in
    let i = checked_value (end_check s h.0.to) (value h.0) v h.2 in
    let same : h.0 ≡ v = same_value i.1 in
    let k = value_within s f.0.held.from Tag.text h.0 h.1 in
    rw (← same) (k.1, omega (arith, k.2, length-take f.0.held.to w))

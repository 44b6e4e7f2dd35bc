-- The digit that a presentation's refusal 9 carries is that of the text in it: document 02, 2026-07, "every refusal 9 shall carry
-- that digit up through text and presentation".
use Rattle.std.specs.Prelude.{ℕ, ◌+◌, ◌≡◌, List, [], take}
use Rattle.zone.specs.declared.form.Source.TheVariants.{GroupOne}
use Rattle.refusal.specs.Numbers.{expecting}
use Rattle.refusal.specs.Outcome.{refused}
use Rattle.text.specs.Read.{read_text}
use Rattle.tlv.specs.declared.Stretch.{Stretch}
use Rattle.tlv.specs.Read.{Read, value, and_then, checked}
use Rattle.tlv.specs.Element.{element}
use Rattle.tlv.specs.Cut.{cut, end_check}
use Rattle.tlv.specs.Tags as Tag
use Rattle.tlv.specs.Versions.{both}
use Rattle.efcom.specs.EfCom.{read_ef_com}
use Rattle.object.specs.Object.{read_object}
use Rattle.outer.specs.Outer.{files, walked}
use Rattle.chip.specs.Versions.{versions_check}
use Rattle.chip.specs.Files.{files_check}
use Rattle.chip.specs.Presentation.{first_file}

-- where the text of group 1 stands, once all that goes before the text is in order
unfoldable pub text_stretch : List ℕ → Read Stretch
text_stretch w =
    and_then (walked w) (λ o.
    and_then (read_ef_com both w o.efcom) (λ c.
    and_then (read_object both w o.object) (λ x.
    checked (versions_check w o.efcom.to c x.version)
    (and_then (files w o.object.to) (λ fs.
    checked (files_check w (cut w c.tags) [] x.entries fs)
    (and_then (first_file w 1 fs) (λ f.
    and_then (element (take f.held.to w) f.held.from Tag.text) (λ v.
    checked (end_check (take f.held.to w) v.to) (value v)))))))))

-- the presentation's text is refused by 9 with this digit, at this place of the presentation
pub record FromText (w : List ℕ) (d place : ℕ) : Type 0 where
  pub held : Stretch
  pub stands : text_stretch w ≡ value held
  pub own : ℕ
  pub text_refused : (read_text GroupOne (cut w held)).outcome ≡ refused (expecting d) own
  pub there : place ≡ held.from + own

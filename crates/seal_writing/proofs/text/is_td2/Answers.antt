-- Equal to `Td2`, or another.
use mathlib.Core.Path.{◌≡◌, refl, ◌∙◌}
use denote.Enum.Bare.{sameb}
use Rattle.zone.specs.contracts.form.Form.{the_type}
use Rattle.zone.specs.declared.form.Form.{Form}
use Rattle.zone.specs.declared.form.Form.TheVariants.{Td1, Td2, Td3, MrvA, MrvB}
use Rattle.seal_writing.specs.Seal.{is_td2}
use Rattle.seal_writing.proofs.text.is_td2.Goals as goal

pub returns : goal.returns
unfolding is_td2
returns c = c.eq.ensures ∙ told c.args.form
  where
    told : (f : Form) → sameb the_type f Td2 ≡ is_td2 f
    told Td1 = refl
    told Td2 = refl
    told Td3 = refl
    told MrvA = refl
    told MrvB = refl

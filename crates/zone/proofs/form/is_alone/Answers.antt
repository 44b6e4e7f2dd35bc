-- Equal to `Alone`, or another.
use mathlib.Core.Path.{◌≡◌, refl, ◌∙◌}
use denote.Enum.Bare.{sameb}
use Rattle.zone.specs.contracts.form.Source.{the_type}
use Rattle.zone.specs.declared.form.Source.{Source}
use Rattle.zone.specs.declared.form.Source.TheVariants.{Alone, GroupOne, Seal}
use Rattle.zone.specs.Form.{is_alone}
use Rattle.zone.proofs.form.is_alone.Goals as goal

pub returns : goal.returns
unfolding is_alone
returns c = c.eq.ensures ∙ told c.args.source
  where
    told : (s : Source) → sameb the_type s Alone ≡ is_alone s
    told Alone = refl
    told GroupOne = refl
    told Seal = refl

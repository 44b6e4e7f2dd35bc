-- One test for each field.
use mathlib.Core.Bool.{and-true}
use Rattle.zone.specs.Record.{plain, held_rows}
use Rattle.field.specs.Rules.{rule_rows}
use Rattle.sound.specs.Sound.{keeps_rules}
use Rattle.sound.proofs.fields.keeps_rules.Goals as goal

pub returns : goal.returns
unfolding keeps_rules plain held_rows rule_rows
returns c =
    let sex = c in
    let birth = sex in
    let nationality = birth in
    let state = nationality in
    rw (
      c.is_expiry.ensures,
      sex.is_sex.ensures,
      birth.is_birth.ensures,
      nationality.is_state-2.ensures,
      state.is_state.ensures,
      state.is_code.ensures,
      and-true,
    )

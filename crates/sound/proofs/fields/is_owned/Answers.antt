-- The tests are those of `is_owned`; where there is no data one is enough (`no-data`).
use mathlib.Core.Path.{sym}
use Rattle.zone.specs.Form.{own_place}
use Rattle.sound.specs.Sound.{is_owned}
use Rattle.sound.proofs.NoData.{no_data}
use Rattle.sound.proofs.fields.is_owned.Goals as goal

pub returns-then-r-eq0 : goal.returns-then-r-eq0
unfolding is_owned
returns-then-r-eq0 c =
    let r = c.args.r in
    rw (c.all_fillers.ensures, c.if-r-eq0.true)
    (sym (no_data (own_place r.form r.number_len) r.own))

pub returns-else-r-eq0 : goal.returns-else-r-eq0
unfolding is_owned
returns-else-r-eq0 c = rw (
  c.all_characters.ensures,
  c.is_held.ensures,
  c.own_place.ensures,
)

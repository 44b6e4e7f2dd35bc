-- A field that is read fills its room; of none every place is a filler.
use mathlib.Core.Path.{sym, ◌∙◌}
use Rattle.zone.specs.Record.{padded}
use Rattle.zone.proofs.Padded.{padded_exact}
use Rattle.c40.specs.Field.{field_at}
use Rattle.c40.proofs.Exactly.{field_length, no_field}
use Rattle.seal_fields.specs.Spaces.{filled}
use Rattle.seal_fields.proofs.Filled.{length-filled}
use Rattle.seal_header.specs.Header.{country}
use Rattle.seal_header.proofs.header.country_in.Goals as goal

pub returns-then-field_at : goal.returns-then-field_at
unfolding country filled padded
returns-then-field_at c = let s = c.args.s.now in
    let f = c.field_at.ensures in
    let is = sym f.answer ∙ c.if-field_at.true in
    rw (c.to_fillers.ensures, f.output, is)
    (sym (padded_exact 3 (filled (field_at s 2 3)) (length-filled (field_at s 2 3) ∙ field_length s 2 3 is)))

pub returns-else-field_at : goal.returns-else-field_at
unfolding country filled padded
returns-else-field_at c = let s = c.args.s.now in
    let f = c.field_at.ensures in
    let no = sym f.answer ∙ c.if-field_at.false in
    rw (f.output, no, no_field s 2 3 no)

-- The one test that is left, turned into a test of the record that the bits say.
use mathlib.Core.Path.{sym, ◌∙◌}
use mathlib.Core.Bool.{and_assoc}
use Rattle.lent.proofs.Bools.{and_both}
use Rattle.entry.specs.Entry.{is_house}
use Rattle.runs.specs.Run.{size_in, is_whole, is_entry, entry_by}
use Rattle.runs.proofs.RecordRead.{row_ends}
use Rattle.runs.proofs.run.sound_entry.Goals as goal

pub record_in-kept-requires : goal.record_in-kept-requires
record_in-kept-requires c =
    let a = c.args in
    let known = c.requires in
    (known.told.0, (and_both (is_house a.house) (is_whole a.s.now) known.house_value.1).1)

pub returns-then-is_sound : goal.returns-then-is_sound
unfolding size_in is_entry entry_by
returns-then-is_sound c =
    let start = c in
    let known = start.requires in
    let ends = row_ends start.args.s.now start.args.m start.args.n known.told.0 in
    let kept = rw known.house_value.0 at known.house_value.1 in
    let sound = rw c.record_in-kept.ensures at
    (sym c.is_sound.ensures ∙ c.if-is_sound.true) in
    rw (c.size.ensures.0, c.record_in-kept.ensures, ends, known.house_value.0, ← and_assoc, kept, sound)

pub returns-else-is_sound : goal.returns-else-is_sound
unfolding is_entry entry_by
returns-else-is_sound c =
    let known = c.requires in
    let kept = rw known.house_value.0 at known.house_value.1 in
    let unsound = rw c.record_in-kept.ensures at
    (sym c.is_sound.ensures ∙ c.if-is_sound.false) in
    rw (c.no_entry.ensures, ← and_assoc, kept, unsound)

-- House and whole first; what is left is the record.
use borrow.Author.Rules.{rules}
use mathlib.Core.Path.{ap, ◌∙◌}
use mathlib.Core.Bool.{and_assoc}
use Rattle.cells.specs.Bits.{bits_at}
use Rattle.cells.specs.Cells.{numbers_at}
use Rattle.units.specs.Unpacked.{bits_within}
use Rattle.runs.specs.Inner.Units.{name_at}
use Rattle.runs.specs.Run.{house_in, is_entry, entry_by}
use Rattle.runs.proofs.run.entry_as.Goals as goal

pub is_whole-requires : goal.is_whole-requires
is_whole-requires c =
    let s = c.args.s.now in
    let own = c.own_length-m.ensures in
    let name = c.name_length-n.ensures in
    (own.1, name.1, own.0, name.0 ∙ ap (λ m. bits_at s (name_at m) 6) own.0)

pub sound_entry-requires : goal.sound_entry-requires
unfolding house_in numbers_at bits_within
sound_entry-requires c =
    let kept = rw (c.is_whole.ensures, c.is_house.ensures) at c.if-is_house-is_whole.true in
    let s = c.args.s.now in
    let own = c.own_length-m.ensures in
    let name = c.name_length-n.ensures in
    record {
      told = ((own.1, name.1, own.0, name.0 ∙ ap (λ m. bits_at s (name_at m) 6) own.0), search rules);
      house_value = (c.bits-house.ensures, kept);
    }

pub returns-else-is_house-is_whole : goal.returns-else-is_house-is_whole
unfolding house_in numbers_at bits_within is_entry entry_by
returns-else-is_house-is_whole c =
    let kept = rw (
      c.is_whole.ensures,
      c.is_house.ensures,
      c.bits-house.ensures,
    ) at c.if-is_house-is_whole.false in
    rw (c.no_entry.ensures, ← and_assoc, kept)

pub returns-then-is_house-is_whole : goal.returns-then-is_house-is_whole
returns-then-is_house-is_whole c = c.sound_entry.ensures

-- The first octets of the packed units are those of the entry (`entry-packed`).
use borrow.Author.Rules.{rules}
use mathlib.Core.Path.{◌≡◌}
use native.Mathlib.Omega.{arith}
use lib.ListN.{length}
use lib.Seq.{take_all}
use Rattle.sound.proofs.SoundRecord.{taken_apart}
use Rattle.entry.specs.Entry.{entry_of, size}
use Rattle.entry.proofs.EntryUnits.{both_most, size_by_lem, entry_packed}
use Rattle.entry.proofs.Values.{house_range, length_entry}
use Rattle.entry.proofs.write.write_octets.Goals as goal

pub units_of-units-requires : goal.units_of-units-requires
units_of-units-requires c = ((house_range c.args.house c.requires.0).1, search rules)

pub overflow_add-characters : goal.overflow_add-characters
overflow_add-characters c =
    let start = c in
    omega (arith, both_most start.args.r (taken_apart start.args.r start.requires.1))

pub pack_units-requires : goal.pack_units-requires
pack_units-requires c =
    let start = c in
    (both_most start.args.r (taken_apart start.args.r start.requires.1), search rules, search rules)

pub size-requires : goal.size-requires
size-requires c =
    let start = c in
    both_most start.args.r (taken_apart start.args.r start.requires.1)

pub returns : goal.returns
returns c =
    let copied = c in
    let cut = copied in
    let sized = cut in
    let packed = sized in
    let unit = packed in
    let start = unit in
    let house = start.args.house in
    let r = start.args.r in
    let s = taken_apart r start.requires.1 in
    let e = entry_of house r in
    let long : length e ≡ size r = length_entry r s house in
    rw (
      copied.copy.ensures,
      cut.part.ensures,
      sized.size.ensures,
      size_by_lem r,
      packed.pack_units.ensures,
      unit.units_of-units.ensures,
      entry_packed house r start.requires.0 s,
      long,
      take_all (length start.args.out.now) e (omega (arith, start.requires.2)),
    )

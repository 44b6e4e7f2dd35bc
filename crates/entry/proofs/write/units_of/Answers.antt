-- The characters as codes, and the numbers between them (`numbers-placed`).
-- the lengths fit an octet, and the name's stands among the units
use native.Mathlib.Omega.{arith}
use Rattle.sound.proofs.SoundRecord.{taken_apart}
use Rattle.entry.proofs.Placing.{numbers_placed}
use Rattle.entry.proofs.Values.{own_taken}
use Rattle.entry.proofs.write.units_of.Goals as goal

pub overflow_cast-units-4 : goal.overflow_cast-units-4
overflow_cast-units-4 c =
    let start = c in
    omega (arith, (taken_apart start.args.r start.requires.1).own_most)

pub overflow_cast-units-5 : goal.overflow_cast-units-5
overflow_cast-units-5 c =
    let start = c in
    omega (arith, (taken_apart start.args.r start.requires.1).name_most)

pub overflow_add-units : goal.overflow_add-units
overflow_add-units c =
    let start = c in
    omega (arith, (taken_apart start.args.r start.requires.1).own_most)

pub bounds-units-r : goal.bounds-units-r
bounds-units-r c =
    let start = c in
    omega (arith, (taken_apart start.args.r start.requires.1).own_most)

pub returns : goal.returns
returns c =
    let coded = c in
    let told = coded in
    let a = told.args in
    let s = taken_apart a.r told.requires.1 in
    rw (
      coded.to_codes.ensures,
      told.characters_of-units.ensures,
      told.sex_code-sex.ensures.0,
      told.form_code.ensures.0,
    )
    (numbers_placed a.house a.r s (own_taken a.r s))

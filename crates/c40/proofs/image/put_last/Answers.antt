-- How many are left tells what the last pair holds.
use native.Mathlib.Omega.{arith}
use mathlib.Core.Path.{ap}
use mathlib.Core.List.{[]}
use lib.ListN.{length}
use Rattle.c40.proofs.Imaging.{imaged_two, imaged_one, imaged_none, pair_stored}
use Rattle.c40.proofs.image.put_last.Goals as goal

pub put_pair-requires : goal.put_pair-requires
put_pair-requires c = omega (arith, ap length (imaged_one c.args.s.now (omega arith)))

pub put_pair-requires-in-len2-up : goal.put_pair-requires-in-len2-up
put_pair-requires-in-len2-up c = omega (arith, ap length (imaged_two c.args.s.now (omega arith)))

pub returns-in-len1 : goal.returns-in-len1
returns-in-len1 c =
    let a = c.args in
    rw (imaged_one a.s.now (omega arith), c.put_pair.ensures, c.one_packed.ensures) (pair_stored a.out.now a.n _ [])

pub returns-in-len2-up : goal.returns-in-len2-up
returns-in-len2-up c =
    let a = c.args in
    rw (
      imaged_two a.s.now (omega arith),
      c.put_pair-in-len2-up.ensures,
      c.packed.ensures,
      c.value_of-in-len2-up.ensures.0,
      c.value_of.ensures.0,
    )
    (pair_stored a.out.now a.n _ [])

pub returns-in-empty : goal.returns-in-empty
returns-in-empty c = rw (imaged_none c.args.s.now (omega arith))

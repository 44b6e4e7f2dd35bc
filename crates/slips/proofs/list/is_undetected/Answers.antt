-- The characters are those of the two codes, and the test is that of the definition.
use Rattle.std.proofs.Common.{arith, ◌/◌, ◌%◌, ◌<◌}
use Rattle.digit_theorems.specs.Pairs.{pair_at, is_undetected}
use Rattle.slips.proofs.list.is_undetected.Goals as goal

pub returns : goal.returns
unfolding is_undetected pair_at
returns c =
    let n = c.args.number in
    let l : n / 37 < 64 = omega arith in
    let u : n % 37 < 64 = omega arith in
    let by = c.characters-by_code.ensures in
    rw (c.value-2.ensures, c.value.ensures, by (n / 37) l, by (n % 37) u)

-- The lengths of what the run reader reads fit an octet.
use mathlib.Core.Path.{ap}
use borrow.Author.Rules.{rules}
use native.Mathlib.Omega.{arith}
use Rattle.zone.specs.Record.{blank, holding}
use Rattle.runs.specs.Run.{Standing}
use Rattle.runs.proofs.Lengths.{short_read}
use Rattle.as_entry.proofs.open_one.Goals as goal

pub record_in_c-requires : goal.record_in_c-requires
record_in_c-requires c =
    let kept = ap (λ (x : Standing). x.kept) c.in-Ok-Some.ensures in
    let short = rw (← kept, c.in-Ok-Some.field-0-is) at (short_read c.args.range.now 0) in
    (omega (arith, short.number_short), omega (arith, short.name_short), omega (arith, short.own_short))

pub record_in_c-requires-in_default : goal.record_in_c-requires-in_default
unfolding blank holding
record_in_c-requires-in_default c = rw c.blank.ensures (search rules)

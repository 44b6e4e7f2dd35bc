use mathlib.Core.Path.{◌∙◌}
use Rattle.zone.proofs.Trimmed.{trimmed_suffix, trimmed_whole}
use Rattle.zone.proofs.record.trimmed_length.Goals as goal

pub loop-shorter-preserved : goal.loop-shorter-preserved
loop-shorter-preserved c = let l = c.loop-shorter in
    let eight = c.in-Some.ensures.cases in
    rw eight.1 (trimmed_suffix l.rest.now 8 _ eight.0 ∙ l.invariant)

pub loop-shorter-2-preserved : goal.loop-shorter-2-preserved
loop-shorter-2-preserved c = let l = c.loop-shorter-2 in
    let one = c.in-Some-strip_suffix.ensures.cases in
    rw one.1 (trimmed_suffix l.rest.now 1 _ one.0 ∙ l.invariant)

pub returns : goal.returns
returns c = let l = c.loop-shorter-2 in
    trimmed_whole l.rest.now c.in_default-strip_suffix.ensures.cases ∙ l.invariant

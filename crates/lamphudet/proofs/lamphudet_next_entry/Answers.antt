-- The run reader's own promise, told in numbers.
use native.Mathlib.Omega.{arith}
use mathlib.Core.Path.{ap, ◌∙◌}
use Rattle.runs.specs.Run.{Standing}
use Rattle.zone.proofs.Octets.{lent_octets}
use Rattle.border.specs.Calls.{next_in_c}
use Rattle.lamphudet.proofs.lamphudet_next_entry.Goals as goal

pub returns : goal.returns
returns c =
    let lent = c in
    let octets = lent_octets lent.args.run.now (λ i. omega (arith, lent.shared_slice_known-1.given i)) in
    record {
      value = c.from.ensures ∙ ap (λ (a : Standing). next_in_c a.onward) c.next.ensures;
      are_octets = octets;
    }

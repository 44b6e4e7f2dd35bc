-- The number of entries, or the refusal, told in numbers.
use native.Mathlib.Omega.{arith}
use Rattle.zone.proofs.Octets.{lent_octets}
use Rattle.lamphudet.proofs.lamphudet_look_over.Goals as goal

pub returns : goal.returns
returns c =
    let lent = c in
    let octets = lent_octets lent.args.list.now (λ i. omega (arith, lent.shared_slice_known-1.given i)) in
    record {
      value = rw (c.from.ensures.1, c.look_over.ensures);
      are_octets = octets;
    }

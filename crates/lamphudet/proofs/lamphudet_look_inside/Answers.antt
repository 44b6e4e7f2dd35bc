-- The number of elements, or the refusal, told in numbers.
use native.Mathlib.Omega.{arith}
use Rattle.zone.proofs.Octets.{lent_octets}
use Rattle.lamphudet.proofs.lamphudet_look_inside.Goals as goal

pub returns : goal.returns
returns c =
    let lent = c in
    let octets = lent_octets lent.args.file.now (λ i. omega (arith, lent.shared_slice_known-1.given i)) in
    record {
      value = rw (c.from.ensures.1, c.look.ensures);
      are_octets = octets;
    }

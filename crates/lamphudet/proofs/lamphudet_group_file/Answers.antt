-- The stretch, told in numbers.
use native.Mathlib.Omega.{arith}
use Rattle.zone.proofs.Octets.{lent_octets}
use Rattle.lamphudet.proofs.lamphudet_group_file.Goals as goal

pub returns : goal.returns
returns c =
    let lent = c in
    let octets = lent_octets lent.args.presentation.now (λ i. omega (arith, lent.shared_slice_known-1.given i)) in
    record {
      value = rw (c.from.ensures, c.group_stretch.ensures);
      are_octets = octets;
    }

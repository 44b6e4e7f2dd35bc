-- The promise below.
use native.Mathlib.Omega.{arith}
use Rattle.zone.proofs.Octets.{lent_octets}
use Rattle.lamphudet.proofs.lamphudet_open_entry.Goals as goal

pub returns : goal.returns
returns c =
    let lent = c in
    record {
      value = c.open_one.ensures;
      are_octets = lent_octets lent.args.entry.now (λ i. omega (arith, lent.shared_slice_known-1.given i));
    }

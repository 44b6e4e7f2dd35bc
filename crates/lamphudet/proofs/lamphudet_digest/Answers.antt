-- The digest's own promise, told in numbers.
use native.Mathlib.Omega.{arith}
use Rattle.zone.proofs.Octets.{lent_octets}
use Rattle.lamphudet.proofs.lamphudet_digest.Goals as goal

pub returns : goal.returns
returns c =
    let d = c.digest.ensures in
    let lent = c in
    let octets = lent_octets lent.args.input.now (λ i. omega (arith, lent.shared_slice_known-1.given i)) in
    record {
      value = rw (c.from.ensures.0, d.answer);
      digest_after = d.output;
      are_octets = octets;
    }

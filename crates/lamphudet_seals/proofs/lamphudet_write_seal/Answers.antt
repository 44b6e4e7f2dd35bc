-- What was written, told in numbers.
use native.Mathlib.Omega.{arith}
use Rattle.zone.proofs.Octets.{lent_octets}
use Rattle.lamphudet_seals.specs.Given.{write_seal_in_c}
use Rattle.lamphudet_seals.proofs.lamphudet_write_seal.Goals as goal

pub returns : goal.returns
unfolding write_seal_in_c
returns c =
    let w = c.write_one-written.ensures in
    let a = c.args in
    let entry = lent_octets a.entry.now (λ i. omega (
      arith,
      c.shared_slice_known-1.given i,
    )) in
    let signature = lent_octets a.signature.now (λ i. omega
    (arith, c.shared_slice_known-2-1.given i)) in
    record {
      value = rw (c.from.ensures.0, w.result_value);
      seal_after = w.out_after;
      are_octets = (entry, signature);
    }

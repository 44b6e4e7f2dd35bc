-- The two promises below, told in numbers.
use native.Mathlib.Omega.{arith}
use Rattle.zone.proofs.Octets.{lent_octets}
use Rattle.lamphudet.proofs.lamphudet_write_text.Goals as goal

pub returns : goal.returns
returns c =
    let w = c.write_one.ensures in
    let lent = c in
    let octets = lent_octets lent.args.entry.now (λ i. omega (arith, lent.shared_slice_known-1.given i)) in
    record {
      value = rw (c.from.ensures.0, w.result_value);
      text_after = w.out_after;
      are_octets = octets;
    }

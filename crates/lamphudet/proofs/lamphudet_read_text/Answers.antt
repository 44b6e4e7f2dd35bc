-- What was read is entered, told in numbers.
use native.Mathlib.Omega.{arith}
use Rattle.text.specs.Read.{answer_of}
use Rattle.zone.proofs.Octets.{lent_octets}
use Rattle.lamphudet.specs.Calls.{read_answer, read_out}
use Rattle.lamphudet.proofs.lamphudet_read_text.Goals as goal

pub returns : goal.returns
unfolding answer_of read_answer read_out
returns c =
    let read = c.read.ensures in
    let w = c.enter.ensures in
    let lent = c in
    let octets = lent_octets lent.args.text.now (λ i. omega (arith, lent.shared_slice_known-1.given i)) in
    record {
      value = rw (c.from.ensures.0, w.result_value, ← read);
      after = rw (w.out_after, ← read);
      are_octets = octets;
    }

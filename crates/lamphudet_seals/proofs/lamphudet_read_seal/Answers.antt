-- What was read is entered, told in numbers; or it is refused.
use native.Mathlib.Omega.{arith}
use Rattle.seal.specs.Seal.{answer_of, answer_by}
use Rattle.zone.proofs.Octets.{lent_octets}
use Rattle.entry.specs.Entered.{entered_answer, entered_out}
use Rattle.lamphudet_seals.specs.Answer.{seal_in_c, read_seal_in_c, read_seal_out}
use Rattle.lamphudet_seals.proofs.lamphudet_read_seal.Goals as goal

pub returns-in-Ok : goal.returns-in-Ok
unfolding answer_of read_seal_in_c read_seal_out
returns-in-Ok c =
    let read = c.in-Ok.ensures in
    let w = c.enter-written.ensures in
    let octets = lent_octets c.args.seal.now (λ i. omega (arith, c.shared_slice_known-1.given i)) in
    record {
      value = rw (c.seal_in_c.ensures, w.result_value, ← read);
      after = rw (w.out_after, ← read);
      are_octets = octets;
    }

pub returns-in-Err : goal.returns-in-Err
unfolding answer_of answer_by read_seal_in_c read_seal_out seal_in_c entered_answer entered_out
returns-in-Err c =
    let read = c.in-Err.ensures in
    let octets = lent_octets c.args.seal.now (λ i. omega (arith, c.shared_slice_known-1.given i)) in
    record {
      value = rw (c.from.ensures, ← read);
      after = rw (← read);
      are_octets = octets;
    }

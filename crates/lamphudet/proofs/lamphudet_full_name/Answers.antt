-- The name's source and stretch, told in numbers.
use native.Mathlib.Omega.{arith}
use Rattle.zone.proofs.Octets.{lent_octets}
use Rattle.lamphudet.proofs.lamphudet_full_name.Goals as goal

pub returns : goal.returns
returns c =
    let lent = c in
    let a = lent.args in
    let file = lent_octets a.file.now (λ i. omega (arith, lent.shared_slice_known-1.given i)) in
    let text = lent_octets a.text.now (λ i. omega (arith, lent.shared_slice_known-2-1.given i)) in
    record {
      value = rw (c.from.ensures, c.find.ensures);
      are_octets = file;
      are_octets_2 = text;
    }

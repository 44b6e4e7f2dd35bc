-- The octets of a word are those of the definition.
use mathlib.Core.Path.{ap, sym, ◌∙◌}
use native.Mathlib.Omega.{arith}
use lib.ListN.{length}
use lib.Seq.{sets}
use Rattle.sha256.proofs.OctetLaws.{four_octets, part_put}
use Rattle.sha256.proofs.octets.put.Goals as goal

pub returns : goal.returns
returns c =
    let a = c.args in
    let four = ap length c.to_be_bytes.ensures in
    rw c.copy_from_slice.ensures.after
    (part_put a.out.now a.at _ c.to_be_bytes.result (omega arith) (omega arith)
    ∙ ap (sets a.out.now a.at) (c.to_be_bytes.ensures ∙ sym (four_octets a.x)))

-- Both checks in their order.
use Rattle.refusal.proofs.Outcomes.{and_else}
use Rattle.efcom.specs.EfCom.{tags_check}
use Rattle.tlv.proofs.Stretches.{cut_fits}
use Prim.Native.Nat.{◌^◌}
use borrow.Author.Rules.{rules}
use Rattle.efcom.proofs.list.tags_check.Goals as goal

pub known-requires : goal.known-requires
known-requires c =
    let k = cut_fits c.args.s.now c.args.v (2 ^ 64) (search rules) (search rules) in
    rw (← c.cut-tags.ensures) at k

pub once-requires : goal.once-requires
once-requires c =
    let k = cut_fits c.args.s.now c.args.v (2 ^ 64) (search rules) (search rules) in
    rw (← c.cut-tags.ensures) at k

pub returns : goal.returns
unfolding tags_check
returns c = rw (c.and.ensures, and_else, c.once.ensures, c.known.ensures, c.cut-tags.ensures)

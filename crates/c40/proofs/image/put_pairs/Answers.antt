use native.Mathlib.Omega.{arith}
use mathlib.Core.Path.{◌∙◌}
use Rattle.c40.proofs.Imaging.{three_and_rest, two_shorter, three_stored, whole_stored}
use Rattle.c40.proofs.image.put_pairs.Goals as goal

pub put_pair-requires : goal.put_pair-requires
put_pair-requires c =
    let l = c.loop-left in
    omega (arith, l.invariant.1, two_shorter (three_and_rest l.left.now c.in-len3-up.len_at_least))

pub loop-left-preserved : goal.loop-left-preserved
loop-left-preserved c =
    let l = c.loop-left in
    let is = three_and_rest l.left.now c.in-len3-up.len_at_least in (
      c.put_pair.auto.out ∙ l.invariant.0,
      omega (arith, two_shorter is, c.put_pair.auto.out),
      rw (
        c.put_pair.ensures,
        c.packed.ensures,
        c.value_of-in-len3-up-2.ensures.0,
        c.value_of-in-len3-up.ensures.0,
        c.value_of.ensures.0,
      )
          (three_stored is l.out _ l.n l.invariant.2),
    )

pub returns : goal.returns
returns c = c.put_last.ensures ∙ c.loop-left.invariant.2 ∙ whole_stored c.args.out.now _ c.requires

use borrow.Author.Rules.{rules}
use mathlib.Core.Path.{◌∙◌}
use Rattle.sha256.proofs.OctetLaws.{joined_more, joined_all}
use Rattle.sha256.specs.Parsing.{joined}
use Rattle.sha256.proofs.octets.joined.Goals as goal

pub loop-i-init : goal.loop-i-init
unfolding joined
loop-i-init c = search rules

pub loop-i-preserved : goal.loop-i-preserved
loop-i-preserved c =
    let a = c.args in
    let l = c.loop-i in (
      search rules,
      c.put.auto.out ∙ l.invariant.1,
      c.put.ensures ∙ rw l.invariant.2 (joined_more a.hash _ l.i (search rules) (search rules)),
    )

pub returns : goal.returns
returns c =
    let a = c.args in
    let l = c.loop-i in
    l.invariant.2 ∙ joined_all a.hash _ l.i (search rules) (search rules)

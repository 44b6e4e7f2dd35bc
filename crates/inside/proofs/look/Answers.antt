-- A group's tag, the file's own head, what it holds, and the last checks.
use mathlib.Core.Path.{sym, ◌∙◌}
use Rattle.std.proofs.lemmas.Result.{err_from_is_err_and}
use Rattle.tlv.proofs.Told.{exit_read}
use Rattle.tlv.specs.Read.{and_then, checked}
use Rattle.inside.specs.Inside.{group_here}
use Rattle.inside.specs.Inner.Behind.{behind_all, behind_head}
use Rattle.inside.proofs.Heads.{no_group, group_refused, group_head}
use Rattle.inside.proofs.look.Goals as goal

pub returns-then-group-eq0 : goal.returns-then-group-eq0
returns-then-group-eq0 c =
    let s = c.args.s.now in
    let group = rw c.octet.ensures at c.group_of-group.ensures.0 in
    rw c.at.ensures (sym (no_group s (sym group ∙ c.if-group-eq0.true)))

pub returns-in_err-v : goal.returns-in_err-v
returns-in_err-v c =
    let s = c.args.s.now in
    let group = rw c.octet.ensures at c.group_of-group.ensures.0 in
    let p = err_from_is_err_and c.from_residual.result c.from_residual.ensures.1 in
    rw (p.1, p.2) (sym (group_refused s (λ z. c.if-group-eq0.false (group ∙ z)) _ _ (sym c.in_err-v.ensures)))

pub returns-in_err-elements : goal.returns-in_err-elements
unfolding group_here behind_head and_then
returns-in_err-elements c =
    let s = c.args.s.now in
    let group = rw c.octet.ensures at c.group_of-group.ensures.0 in
    let r = c.from_residual-in_err-elements in
    let head = group_head s (λ z. c.if-group-eq0.false (group ∙ z)) c.in_ok-v.v (sym c.in_ok-v.ensures) in
    rw (exit_read _ r.result r.ensures.1, head, ← group, ← c.in_err-elements.ensures)

pub returns-in_err-end_check : goal.returns-in_err-end_check
unfolding group_here behind_head behind_all and_then checked
returns-in_err-end_check c =
    let s = c.args.s.now in
    let group = rw c.octet.ensures at c.group_of-group.ensures.0 in
    let r = c.from_residual-in_err-end_check in
    let head = group_head s (λ z. c.if-group-eq0.false (group ∙ z)) c.in_ok-v.v (sym c.in_ok-v.ensures) in
    rw (exit_read _ r.result r.ensures.1, head, ← group, ← c.in_ok-elements.ensures, ← c.in_err-end_check.ensures)

pub returns-in_err-count_check : goal.returns-in_err-count_check
unfolding group_here behind_head behind_all and_then checked
returns-in_err-count_check c =
    let s = c.args.s.now in
    let group = rw c.octet.ensures at c.group_of-group.ensures.0 in
    let r = c.from_residual-in_err-count_check in
    let head = group_head s (λ z. c.if-group-eq0.false (group ∙ z)) c.in_ok-v.v (sym c.in_ok-v.ensures) in
    rw (
      exit_read _ r.result r.ensures.1,
      head,
      ← group,
      ← c.in_ok-elements.ensures,
      ← c.in_ok-end_check.ensures,
      ← c.in_err-count_check.ensures,
    )

pub returns : goal.returns
unfolding group_here behind_head behind_all and_then checked
returns c =
    let s = c.args.s.now in
    let group = rw c.octet.ensures at c.group_of-group.ensures.0 in
    let head = group_head s (λ z. c.if-group-eq0.false (group ∙ z)) c.in_ok-v.v (sym c.in_ok-v.ensures) in
    rw (head, ← group, ← c.in_ok-elements.ensures, ← c.in_ok-end_check.ensures, ← c.in_ok-count_check.ensures)

-- An element with the tag that stands there, and its rule.
use native.Mathlib.Omega.{arith}
use Rattle.tlv.proofs.Told.{exit_read}
use Rattle.tlv.specs.Read.{and_then, checked}
use Rattle.tlv.proofs.Whatever.{behind_one}
use Rattle.seal_features.specs.Features.{feature_at}
use Rattle.seal_features.proofs.features.feature_at.Goals as goal

pub returns-in_err-v : goal.returns-in_err-v
unfolding feature_at and_then
returns-in_err-v c =
    let a = c.args in
    let element = behind_one a.s.now a.at (omega (arith, c.type_inv.s a.at)) in
    rw (exit_read _ c.from_residual.result c.from_residual.ensures.1, ← element, ← c.behind_tag.ensures, ← c.in_err-v.ensures)

pub returns-in_err-unless : goal.returns-in_err-unless
unfolding feature_at and_then checked
returns-in_err-unless c =
    let a = c.args in
    let r = c.from_residual-in_err-unless in
    let element = behind_one a.s.now a.at (omega (arith, c.type_inv.s a.at)) in
    rw (
      exit_read _ r.result r.ensures.1,
      ← element,
      ← c.behind_tag.ensures,
      ← c.in_ok-v.ensures,
      ← c.keeps_rule.ensures,
      ← c.in_err-unless.ensures,
    )

pub returns : goal.returns
unfolding feature_at and_then checked
returns c =
    let a = c.args in
    let element = behind_one a.s.now a.at (omega (arith, c.type_inv.s a.at)) in
    rw (← element, ← c.behind_tag.ensures, ← c.in_ok-v.ensures, ← c.keeps_rule.ensures, ← c.in_ok-unless.ensures)

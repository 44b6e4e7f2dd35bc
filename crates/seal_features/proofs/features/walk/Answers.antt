use Rattle.std.proofs.lemmas.Result.{err_from_is_err_and}
use mathlib.Core.Path.{refl, ap, sym, ◌∙◌}
use native.Mathlib.Omega.{arith}
use lib.ListN.{length}
use Rattle.seal_features.specs.Features.{features}
use Rattle.seal_features.proofs.FeaturesPassed.{left_from, left_next, feature_within, walk_ends, walk_refused}
use Rattle.seal_features.proofs.features.walk.Goals as goal

pub loop-start-init : goal.loop-start-init
unfolding left_from features
loop-start-init c = refl

pub loop-start-smaller : goal.loop-start-smaller
loop-start-smaller c =
    let l = c.loop-start in
    let w = feature_within c.args.s.now l.at l.text c.in_ok-v.v (sym c.in_ok-v.ensures) in
    omega (arith, w.0, w.1)

pub loop-start-preserved : goal.loop-start-preserved
loop-start-preserved c =
    let s = c.args.s.now in
    let l = c.loop-start in
    let v = c.in_ok-v in
    ap (left_from s v.v.to) c.text_place-text.ensures
    ∙ left_next s l.at l.text v.v (sym c.loop-start-test.ensures) (sym v.ensures) ∙ l.invariant

pub returns-in_err-v : goal.returns-in_err-v
unfolding left_from
returns-in_err-v c =
    let p = err_from_is_err_and c.from_residual.result c.from_residual.ensures.1 in
    let s = c.args.s.now in
    let l = c.loop-start in
    let stop = walk_refused (length s) s l.at l.text _ _ (sym c.loop-start-test.ensures) (sym c.in_err-v.ensures) in
    rw (p.1, p.2) (sym stop ∙ l.invariant)

pub returns : goal.returns
unfolding left_from
returns c =
    let s = c.args.s.now in
    let l = c.loop-start in
    sym (walk_ends (length s) s l.at l.text (sym c.loop-start-test.ensures)) ∙ l.invariant

-- The record, the header and the length are judged, and then the parts are written.
use borrow.Author.Rules.{rules}
use mathlib.Core.Path.{◌≡◌, refl}
use Rattle.std.proofs.lemmas.Result.{err_from_is_err_and}
use Rattle.refusal.specs.Numbers.{why_of}
use Rattle.refusal.specs.Outcome.{passed, refused}
use Rattle.seal_writing.proofs.Answers.{check_by, check_kept, written-so, refused-so}
use Rattle.seal_writing.proofs.write.write.Goals as goal

pub returns-in_err-unless : goal.returns-in_err-unless
unfolding check_by
returns-in_err-unless c =
    let a = c.args in
    let t = c.text_in-fit in
    let p = err_from_is_err_and c.from_residual.result c.from_residual.ensures.1 in
    let why = c.in_err-unless.field-0.0 in
    let unfit = rw t.ensures.0 at c.in_err-unless.ensures in
    let e : check_by a.h a.r a.signature.now ≡ refused (why_of why.cause) why.place = rw (← unfit) in
    refused-so a.h a.r a.signature.now t.new.text _ t.ensures.1 (search rules) a.out.now _ _ _ _ e (rw (p.1, p.2)) refl

pub returns-in_err-unless-2 : goal.returns-in_err-unless-2
unfolding check_by
returns-in_err-unless-2 c =
    let a = c.args in
    let t = c.text_in-fit in
    let r = c.from_residual-in_err-unless-2 in
    let p = err_from_is_err_and r.result r.ensures.1 in
    let fit = rw t.ensures.0 at c.in_ok-unless.ensures in
    let why = c.in_err-unless-2.field-0.0 in
    let uncarried = rw (c.is_carried.ensures, c.seal_width-wide.ensures) at c.in_err-unless-2.ensures in
    let e : check_by a.h a.r a.signature.now ≡ refused (why_of why.cause) why.place = rw (← fit, ← uncarried) in
    refused-so a.h a.r a.signature.now t.new.text _ t.ensures.1 (search rules) a.out.now _ _ _ _ e (rw (p.1, p.2)) refl

pub write_parts-requires : goal.write_parts-requires
unfolding check_by
write_parts-requires c =
    let a = c.args in
    let t = c.text_in-fit in
    let fit = rw t.ensures.0 at c.in_ok-unless.ensures in
    let carried = rw (c.is_carried.ensures, c.seal_width-wide.ensures) at c.in_ok-unless-2.ensures in
    let e : check_by a.h a.r a.signature.now ≡ passed = rw (← fit, ← carried) in
    let kept = check_kept a.h a.r a.signature.now t.new.text _ t.ensures.1 (search rules) e in
    let wide = c.seal_width-wide.ensures in
    (wide, rw wide kept.1.1)

pub returns : goal.returns
unfolding check_by
returns c =
    let a = c.args in
    let t = c.text_in-fit in
    let fit = rw t.ensures.0 at c.in_ok-unless.ensures in
    let carried = rw (c.is_carried.ensures, c.seal_width-wide.ensures) at c.in_ok-unless-2.ensures in
    let e : check_by a.h a.r a.signature.now ≡ passed = rw (← fit, ← carried) in
    let w = rw c.seal_width-wide.ensures at c.write_parts.ensures in
    written-so a.h a.r a.signature.now t.new.text _ t.ensures.1 (search rules) a.out.now _ _ e w.result_value w.out_after

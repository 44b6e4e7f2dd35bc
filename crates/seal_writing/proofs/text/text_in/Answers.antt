-- The writer of texts asks whether the record is sound.
use Rattle.std.specs.Prelude.{ℕ, Result, Ok, Err, is_ok}
use mathlib.Core.Path.{◌≡◌, refl, sym, ap, ◌∙◌}
use Rattle.refusal.specs.declared.Refusal.{Refusal}
use Rattle.refusal.specs.Length.{length_of}
use Rattle.seal_writing.specs.Seal.{is_fit}
use Rattle.seal_writing.specs.Inner.Fit.{is_written}
use Rattle.seal_writing.proofs.Texts.{text_written}
use Rattle.seal_writing.proofs.text.text_in.Goals as goal

pub returns-then-is_td2 : goal.returns-then-is_td2
unfolding is_written
returns-then-is_td2 c =
    let a = c.args in
    let td2 = sym c.is_td2.ensures
    ∙ c.if-is_td2.true in
    let fit = text_written a.r a.text.now td2 c.requires in
    let w = c.write.ensures in
    (c.is_ok.ensures.value ∙ (written c.write.result ∙ (ap is_written w.answer ∙ fit.0)), w.output ∙ fit.1)
  where
    written : (w : Result ℕ Refusal) → is_ok w ≡ is_written (length_of w)
    written (Ok n) = refl
    written (Err why) = refl

pub returns-else-is_td2 : goal.returns-else-is_td2
unfolding is_fit
returns-else-is_td2 c = let e = sym c.is_td2.ensures ∙ c.if-is_td2.false in (rw e, rw e)

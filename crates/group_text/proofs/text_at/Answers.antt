-- The element, then its end, then the text, whose refusals stand in it, so that they can be moved.
use borrow.Author.Rules.{rules}
use Prim.Native.Nat.{◌<◌, ◌^◌}
use mathlib.Core.Path.{ap, sym, ◌∙◌}
use native.Mathlib.Nat.{le_trans}
use native.Mathlib.Omega.{arith}
use lib.ListN.{length}
use Rattle.zone.specs.declared.form.Source.TheVariants.{GroupOne}
use Rattle.refusal.specs.Outcome.{outcome_of}
use Rattle.text.specs.Read.{Answer, answer_of, read_text}
use Rattle.text.proofs.Within.{text_within}
use Rattle.tlv.specs.Read.{and_then, checked, read_of}
use Rattle.tlv.proofs.Past.{value_within}
use Rattle.tlv.proofs.Stretches.{cut_within}
use Rattle.tlv.specs.Cut.{cut}
use Rattle.group_text.specs.Text.{moved, text_at}
use Rattle.group_text.proofs.text_at.Goals as goal

pub overflow_add-held : goal.overflow_add-held
unfolding answer_of
overflow_add-held c =
    let s = c.args.s.now in
    let held = c.in_ok-held in
    let told = sym (ap (λ (a : Answer). a.outcome) (rw c.cut.ensures at c.in-Err.ensures)) in
    let small : length s < 2 ^ 63 = search rules in
    let stood = value_within s c.args.at 0x5F1F held.held (sym held.ensures) in
    let within = cut_within s held.held (le_trans stood.1 stood.2) in
    omega (arith, text_within GroupOne (cut s held.held) _ _ told, within, small)

pub returns-in_err-held : goal.returns-in_err-held
unfolding text_at and_then checked
returns-in_err-held c = search rules

pub returns-in_err-end_check : goal.returns-in_err-end_check
unfolding text_at and_then checked
returns-in_err-end_check c = search rules

pub returns-in-Ok : goal.returns-in-Ok
unfolding text_at and_then checked moved answer_of
returns-in-Ok c = rw (← c.in_ok-held.ensures, ← c.in_ok-end_check.ensures, ← c.cut.ensures, ← c.in-Ok.ensures)

pub returns-in-Err : goal.returns-in-Err
unfolding text_at and_then checked moved answer_of
returns-in-Err c =
    rw (c.at.ensures, ← c.in_ok-held.ensures, ← c.in_ok-end_check.ensures, ← c.cut.ensures, ← c.in-Err.ensures)

-- Where it is accepted, its record has counted the name's characters.
use borrow.Author.Rules.{rules}
use mathlib.Core.Path.{ap, sym, ◌∙◌}
use native.Mathlib.Nat.{le_trans, le_of_eq}
use Rattle.zone.specs.declared.form.Source.TheVariants.{Alone}
use Rattle.text.specs.Read.{Answer, answer_of, read_text}
use Rattle.text.proofs.Ends.{name_kept, name_short}
use Rattle.full_name.specs.FullName.{name_by, in_text}
use Rattle.full_name.proofs.in_text.Goals as goal

pub name_at-requires : goal.name_at-requires
unfolding answer_of
name_at-requires c =
    let t = c.args.text.now in
    let e = c.in-Ok.ensures in
    let o = sym (ap (λ (a : Answer). a.outcome) e) in
    let kept = ap (λ (a : Answer). a.kept.name_len) e ∙ name_kept Alone t o in
    let short = name_short (read_text Alone t).kept.form t in
    search (rules, le_trans (le_of_eq kept) short)

pub returns-in-Ok : goal.returns-in-Ok
unfolding answer_of in_text name_by
returns-in-Ok c =
    let t = c.args.text.now in
    let e = c.in-Ok.ensures in
    let o = sym (ap (λ (a : Answer). a.outcome) e) in
    rw (o, c.name_at.ensures, ap (λ (a : Answer). a.kept) e, name_kept Alone t o)

pub returns-in-Err : goal.returns-in-Err
unfolding answer_of in_text name_by
returns-in-Err c = rw (sym (ap (λ (a : Answer). a.outcome) c.in-Err.ensures))

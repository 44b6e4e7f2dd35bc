-- What the run's reader says there, and then the key.
use mathlib.Core.Path.{ap, sym, ◌∙◌}
use Rattle.std.proofs.lemmas.Result.{err_from_is_err_and}
use Rattle.runs.specs.Run.{Standing}
use Rattle.nightly.specs.Key.{key_at}
use Rattle.nightly.proofs.EntryHere.{entry_stands, entry_not_above, entry_none, entry_refused}
use Rattle.nightly.proofs.place.entry_at.Goals as goal

pub returns-in_err-standing : goal.returns-in_err-standing
returns-in_err-standing c =
    let a = c.args in
    let w = a.list.now in
    let p = err_from_is_err_and c.from_residual.result c.from_residual.ensures.1 in
    let on = sym (ap (λ (s : Standing). s.onward) c.in_err-standing.ensures) in
    rw (p.1, p.2) (sym (entry_refused w (key_at w a.before) a.at _ _ on))

pub returns-then-is_below : goal.returns-then-is_below
unfolding key_at
returns-then-is_below c =
    let a = c.args in
    let w = a.list.now in
    let told = rw c.in-Some.is at c.in_ok-standing.ensures in
    let on = sym (ap (λ (s : Standing). s.onward) told) in
    let house = ap (λ (s : Standing). s.house) told in
    let below = rw (c.part-in-Some.ensures, c.part.ensures) at (sym c.is_below.ensures ∙ c.if-is_below.true) in
    rw house (sym (entry_stands w (key_at w a.before) a.at c.in-Some.standing.next on below))

pub returns-else-is_below : goal.returns-else-is_below
unfolding key_at
returns-else-is_below c =
    let a = c.args in
    let w = a.list.now in
    let on = sym (ap (λ (s : Standing). s.onward) (rw c.in-Some.is at c.in_ok-standing.ensures)) in
    let below = rw (c.part-in-Some.ensures, c.part.ensures) at (sym c.is_below.ensures ∙ c.if-is_below.false) in
    rw c.at.ensures (sym (entry_not_above w (key_at w a.before) a.at c.in-Some.standing.next on below))

pub returns-in-None : goal.returns-in-None
returns-in-None c =
    let a = c.args in
    let w = a.list.now in
    let on = sym (ap (λ (s : Standing). s.onward) (rw c.in-None.is at c.in_ok-standing.ensures)) in
    rw c.at-in-None.ensures (sym (entry_none w (key_at w a.before) a.at on))

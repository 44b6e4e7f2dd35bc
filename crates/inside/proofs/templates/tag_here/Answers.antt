-- Two octets where the first has its low five bits set, else one.
use mathlib.Core.Path.{sym, ◌∙◌}
use Rattle.inside.proofs.Tags.{tag_wide, tag_one}
use Rattle.inside.proofs.templates.tag_here.Goals as goal

pub returns-then-first-eq31 : goal.returns-then-first-eq31
returns-then-first-eq31 c =
    let a = c.args in
    let wide = rw c.octet-first.ensures at c.if-first-eq31.true in
    rw (c.octet-first.ensures, c.octet.ensures) (sym (tag_wide a.s.now a.at wide))

pub returns-else-first-eq31 : goal.returns-else-first-eq31
returns-else-first-eq31 c =
    let a = c.args in
    let one = rw c.octet-first.ensures at c.if-first-eq31.false in
    c.octet-first.ensures ∙ sym (tag_one a.s.now a.at one)

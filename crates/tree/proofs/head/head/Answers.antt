-- The first two octets tell how wide the tag is, and mostly the length.
use mathlib.Core.Path.{◌∙◌}
use native.Mathlib.Omega.{arith}
use Rattle.tree.proofs.Heads.{here_past, here_wide, here_none, here_one, here_short}
use Rattle.tree.proofs.head.head.Goals as goal

pub returns-then-s-at : goal.returns-then-s-at
returns-then-s-at c =
    let a = c.args in
    c.refuse.ensures ∙ here_past a.s.now a.at c.if-s-at.true

pub returns-then-second-le127 : goal.returns-then-second-le127
returns-then-second-le127 c =
    let a = c.args in
    let tag = rw c.octet-first.ensures at c.if-first-eq31.true in
    let second = rw c.octet-second.ensures at c.if-second-le127.true in
    c.behind_tag.ensures ∙ here_wide a.s.now a.at tag second

pub returns-then-first-eq31 : goal.returns-then-first-eq31
returns-then-first-eq31 c =
    let a = c.args in
    let tag = rw c.octet-first.ensures at c.if-first-eq31.true in
    let second = rw c.octet-second.ensures at c.if-second-le127.false in
    c.refuse-then-first-eq31.ensures ∙ here_none a.s.now a.at tag second

pub returns-then-second-le127-2 : goal.returns-then-second-le127-2
returns-then-second-le127-2 c =
    let a = c.args in
    let small = c.type_inv.s a.at in
    let tag = rw c.octet-first.ensures at c.if-first-eq31.false in
    let second = rw c.octet-second.ensures at c.if-second-le127-2.true in
    rw c.octet-second.ensures at c.ends_within.ensures
    ∙ here_short a.s.now a.at tag (omega (arith, small)) second

pub returns : goal.returns
returns c =
    let a = c.args in
    let small = c.type_inv.s a.at in
    let tag = rw c.octet-first.ensures at c.if-first-eq31.false in
    c.behind_tag-2.ensures ∙ here_one a.s.now a.at tag (omega (arith, small))

-- Each kind of tag, and none.
use mathlib.Core.Path.{sym, ◌∙◌}
use native.Mathlib.Omega.{arith}
use Prim.Native.Nat.{◌+◌}
use Rattle.details.proofs.Standing.{detail_past, detail_template, detail_named, detail_foreign}
use Rattle.details.proofs.element.detail_at.Goals as goal

pub returns-then-s-at : goal.returns-then-s-at
returns-then-s-at c =
    let a = c.args in
    c.refuse.ensures ∙ detail_past a.s.now a.at c.if-s-at.true

pub returns-then-tag-eq-TEMPLATE : goal.returns-then-tag-eq-TEMPLATE
returns-then-tag-eq-TEMPLATE c =
    let a = c.args in
    let k = sym c.tag_here-tag.ensures ∙ c.if-tag-eq-TEMPLATE.true in
    c.element.ensures ∙ detail_template a.s.now a.at k

pub returns-then-is_named : goal.returns-then-is_named
returns-then-is_named c =
    let a = c.args in
    let other = rw c.tag_here-tag.ensures at c.if-tag-eq-TEMPLATE.false in
    let named = rw c.tag_here-tag.ensures at
    (sym c.is_named.ensures ∙ c.if-is_named.true) in
    let small = c.type_inv.s (a.at + 1) in
    c.behind_tag.ensures ∙ detail_named a.s.now a.at (omega (arith, small)) other named

pub returns-else-is_named : goal.returns-else-is_named
returns-else-is_named c =
    let a = c.args in
    let other = rw c.tag_here-tag.ensures at c.if-tag-eq-TEMPLATE.false in
    let foreign = rw c.tag_here-tag.ensures at
    (sym c.is_named.ensures ∙ c.if-is_named.false) in
    c.refuse-else-is_named.ensures ∙ detail_foreign a.s.now a.at other foreign

-- A group's tag, and the element with that tag.
use mathlib.Core.Path.{sym, ◌∙◌}
use native.Mathlib.Omega.{arith}
use Rattle.tlv.proofs.Whatever.{behind_one}
use Rattle.outer.specs.Outer.{file_at}
use Rattle.outer.proofs.file_at.Goals as goal

pub returns-then-is_group : goal.returns-then-is_group
unfolding file_at
returns-then-is_group c =
    let a = c.args in
    let small = c.type_inv.w a.at in
    let group = rw c.octet.ensures at (sym c.is_group.ensures
    ∙ c.if-is_group.true) in
    rw group (c.behind_tag.ensures ∙ behind_one a.w.now a.at (omega (arith, small)))

pub returns-else-is_group : goal.returns-else-is_group
unfolding file_at
returns-else-is_group c = rw (
  ← c.octet.ensures,
  ← c.is_group.ensures,
  c.if-is_group.false,
)
    c.refuse.ensures

-- The tag is compared, and then the length read behind it.
use borrow.Author.Tests.{eq-eqb, le-ltb, lt-ltb, ne_eqb}
use Rattle.tlv.specs.Element.{tag_at, tag_width, element}
use mathlib.Core.Path.{◌∙◌}
use Rattle.tlv.proofs.Past.{none_past}
use Rattle.tlv.proofs.element.Goals as goal

pub returns-then-s-at : goal.returns-then-s-at
returns-then-s-at c = c.refuse.ensures
    ∙ none_past c.args.s.now c.args.at
    c.args.tag c.if-s-at.true

pub returns-then-first-tag : goal.returns-then-first-tag
unfolding element tag_at tag_width
returns-then-first-tag c = rw (
  lt-ltb _ _ c.if-tag-lt256.true,
  ← c.octet-first.ensures,
  eq-eqb _ _ c.if-first-tag.true,
)
    c.sized.ensures

pub returns-else-first-tag : goal.returns-else-first-tag
unfolding element tag_at tag_width
returns-else-first-tag c = rw (
  lt-ltb _ _ c.if-tag-lt256.true,
  ← c.octet-first.ensures,
  ne_eqb _ _ c.if-first-tag.false,
)
    c.refuse-else-first-tag.ensures

pub returns-then-first-second : goal.returns-then-first-second
unfolding element tag_at tag_width
returns-then-first-second c = rw (
  le-ltb _ _ c.if-tag-lt256.false,
  ← c.octet-first.ensures,
  ← c.octet-second.ensures,
  eq-eqb _ _ c.if-first-second.true,
)
    c.sized-then-first-second.ensures

pub returns-else-first-second : goal.returns-else-first-second
unfolding element tag_at tag_width
returns-else-first-second c = rw (
  le-ltb _ _ c.if-tag-lt256.false,
  ← c.octet-first.ensures,
  ← c.octet-second.ensures,
  ne_eqb _ _ c.if-first-second.false,
)
    c.refuse-else-first-second.ensures

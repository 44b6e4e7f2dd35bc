-- The checks in their order.
use Rattle.refusal.proofs.Outcomes.{and_else}
use Rattle.seal_header.specs.Header.{back_check}
use Rattle.seal_header.proofs.header.back_check.Goals as goal

pub returns : goal.returns
unfolding back_check
returns c = rw (
  c.and-3.ensures,
  and_else,
  c.and-2.ensures,
  and_else,
  c.and.ensures,
  and_else,
  c.unless-fourth.ensures,
  c.unless-third.ensures,
  c.octet-category.ensures,
  c.octet-definition.ensures,
  c.unless-second.ensures,
  c.is_day-2.ensures,
  c.unless-first.ensures,
  c.is_day.ensures,
)

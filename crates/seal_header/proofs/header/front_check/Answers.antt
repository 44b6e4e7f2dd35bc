-- The checks in their order.
use Rattle.refusal.proofs.Outcomes.{and_else}
use Rattle.seal_header.specs.Reference.{version}
use Rattle.seal_header.specs.Header.{front_check}
use Rattle.seal_header.proofs.header.front_check.Goals as goal

pub returns : goal.returns
unfolding front_check version
returns c = rw (
  c.and-3.ensures,
  and_else,
  c.and-2.ensures,
  and_else,
  c.and.ensures,
  and_else,
  c.unless-signer.ensures,
  c.is_reference.ensures,
  c.unless-state.ensures,
  c.is_state.ensures,
  c.unless-version.ensures,
  c.is_version.ensures,
  c.octet-2.ensures,
  c.unless-first.ensures,
  c.octet.ensures,
)

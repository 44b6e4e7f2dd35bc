-- Its parts are those of `HeadsBy`.
use borrow.Author.Rules.{rules}
use Rattle.refusal.proofs.Outcomes.{and_else}
use Rattle.seal_header.specs.Header.{check_by, said_by}
use Rattle.seal_header.proofs.header.read_by.Goals as goal

pub returns : goal.returns
unfolding check_by said_by
returns c = record {
  decided = rw (
    c.and-verdict.ensures,
    and_else,
    c.back_check.ensures,
    c.front_check.ensures,
    c.day_at-signed.ensures,
    c.day_at-issued.ensures,
    c.country_in-country.ensures,
  );
  said = rw (
    c.header_by.ensures,
    c.day_at-signed.ensures,
    c.day_at-issued.ensures,
    c.country_in-country.ensures,
  );
  ends = search rules;
}

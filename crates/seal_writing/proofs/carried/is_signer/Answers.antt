-- The four characters.
use Rattle.seal_writing.specs.Carried.{is_signer}
use Rattle.seal_writing.proofs.carried.is_signer.Goals as goal

pub returns : goal.returns
unfolding is_signer
returns c = rw (
  c.is_letter_or_digit-2.ensures,
  c.octet-4.ensures,
  c.is_letter_or_digit.ensures,
  c.octet-3.ensures,
  c.is_letter-2.ensures,
  c.octet-2.ensures,
  c.is_letter.ensures,
  c.octet.ensures,
)

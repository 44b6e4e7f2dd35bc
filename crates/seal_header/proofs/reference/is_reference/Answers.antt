-- The tests are those of `is_reference`; the part up to the end is all that is left.
use native.Mathlib.Omega.{arith}
use mathlib.Core.Path.{sym, ◌∙◌}
use lib.ListN.{length}
use Rattle.lent.proofs.Lists.{take_rest, rest_all}
use Rattle.seal_header.specs.Reference.{is_reference}
use Rattle.seal_header.proofs.reference.is_reference.Goals as goal

pub returns : goal.returns
unfolding is_reference
returns c = let t = c.args.t.now in
    let rest = sym (take_rest (length t) 4 t (omega arith)) ∙ rest_all t 4 in
    rw (
      c.all_hex.ensures,
      c.part.ensures,
      rest,
      c.is_letter_or_digit-2.ensures,
      c.octet-4.ensures,
      c.is_letter_or_digit.ensures,
      c.octet-3.ensures,
      c.is_letter-2.ensures,
      c.octet-2.ensures,
      c.is_letter.ensures,
      c.octet.ensures,
    )

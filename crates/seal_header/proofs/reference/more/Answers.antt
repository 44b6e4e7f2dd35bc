-- The two characters of the six, or 0 where there are not six.
use borrow.Author.Rules.{rules}
use mathlib.Core.Path.{sym, ◌∙◌}
use Rattle.zone.specs.Alphabet.{is_digit}
use Rattle.c40.proofs.Exactly.{no_field}
use Rattle.seal_fields.specs.Hex.{is_hex_letter, hex_of}
use Rattle.seal_header.specs.Reference.{more_by}
use Rattle.seal_header.proofs.reference.more.Goals as goal

pub returns-then-field_at : goal.returns-then-field_at
unfolding more_by hex_of is_hex_letter is_digit
returns-then-field_at c = let f = c.field_at.ensures in
    let is = sym f.answer ∙ c.if-field_at.true in
    (rw (c.hex_of-then-field_at.ensures.0, c.hex_of.ensures.0, f.output, is), search rules)

pub returns-else-field_at : goal.returns-else-field_at
unfolding more_by hex_of is_hex_letter is_digit
returns-else-field_at c = let s = c.args.s.now in
    (rw (no_field s 4 6 (sym c.field_at.ensures.answer ∙ c.if-field_at.false)), search rules)

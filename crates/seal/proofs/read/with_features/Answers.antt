-- Feature 02 is there, and is the image of 72 characters.
use mathlib.Core.Path.{sym, ◌∙◌}
use borrow.Author.Tests.{eq-eqb, ne_eqb}
use Rattle.tlv.specs.Read.{checked}
use Rattle.seal.specs.Seal.{answer_of, feature_octets, text_in, with_features}
use Rattle.seal.proofs.read.with_features.Goals as goal

pub returns-then-found-eq0 : goal.returns-then-found-eq0
unfolding with_features feature_octets text_in checked answer_of
returns-then-found-eq0 c = rw (c.at.ensures, eq-eqb _ _ c.if-found-eq0.true)

pub returns-then-field_at : goal.returns-then-field_at
unfolding with_features feature_octets text_in checked
returns-then-field_at c = let f = c.field_at.ensures in
    let part = c.part.ensures in
    let is = sym f.answer ∙ c.if-field_at.true in
    rw (
      ne_eqb _ _ c.if-found-eq0.false,
      ← part,
      is,
    )
    (rw (f.output, is) at c.with_image.ensures)

pub returns-else-field_at : goal.returns-else-field_at
unfolding with_features feature_octets text_in checked answer_of
returns-else-field_at c = let f = c.field_at.ensures in
    let part = c.part.ensures in
    rw (
      c.at-else-field_at.ensures,
      ne_eqb _ _ c.if-found-eq0.false,
      ← part,
      sym f.answer ∙ c.if-field_at.false,
    )

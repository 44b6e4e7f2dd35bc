-- Each arm is the rule of its kind.
use Rattle.field.specs.Code.{code_rule, kind_rule}
use Rattle.field.proofs.code.is_code.Goals as goal

pub returns-in-Card : goal.returns-in-Card
unfolding code_rule kind_rule
returns-in-Card c = simp (
  ← c.is_card.ensures,
  ← c.kind.ensures,
  c.in-Card.is,
  ← c.octet-b.ensures,
  ← c.octet-a.ensures,
)

pub returns-in-Passport : goal.returns-in-Passport
unfolding code_rule kind_rule
returns-in-Passport c = simp (
  ← c.is_passport.ensures,
  ← c.kind.ensures,
  c.in-Passport.is,
  ← c.octet-b.ensures,
  ← c.octet-a.ensures,
)

pub returns-in-Visa : goal.returns-in-Visa
unfolding code_rule kind_rule
returns-in-Visa c = simp (
  ← c.selects_visa.ensures,
  ← c.kind.ensures,
  c.in-Visa.is,
  ← c.octet-b.ensures,
  ← c.octet-a.ensures,
)

-- The tests are those of `expiry_rule`.
use Rattle.field.specs.Date.{year_of, month_of, day_of, birth_rule, expiry_rule}
use Rattle.field.proofs.date.is_expiry.Goals as goal

pub returns-then-is_known : goal.returns-then-is_known
unfolding expiry_rule birth_rule year_of month_of day_of
returns-then-is_known c =
    let k = c in
    let o = k in
    let known = rw (
      k.is_known-3.ensures,
      k.is_known-2.ensures,
      k.is_known.ensures,
      o.octet-f.ensures,
      o.octet-e.ensures,
      o.octet-d.ensures,
      o.octet-c.ensures,
      o.octet-b.ensures,
      o.octet-a.ensures,
    ) at c.if-is_known.true in
    rw (
      c.is_date.ensures,
      c.pair_of-then-is_known-2.ensures,
      c.pair_of-then-is_known.ensures,
      c.pair_of.ensures,
      o.octet-f.ensures,
      o.octet-e.ensures,
      o.octet-d.ensures,
      o.octet-c.ensures,
      o.octet-b.ensures,
      o.octet-a.ensures,
      known,
    )

pub returns-else-is_known : goal.returns-else-is_known
unfolding expiry_rule year_of month_of day_of
returns-else-is_known c =
    let o = c in
    let known = rw (
      c.is_known-3.ensures,
      c.is_known-2.ensures,
      c.is_known.ensures,
      o.octet-f.ensures,
      o.octet-e.ensures,
      o.octet-d.ensures,
      o.octet-c.ensures,
      o.octet-b.ensures,
      o.octet-a.ensures,
    ) at c.if-is_known.false in
    rw known

-- The length is told by three octets, or fewer.
use Rattle.tlv.specs.Element.{sized, size_at}
use Rattle.tlv.specs.Inner.Counts.{count_in}
use native.Mathlib.Omega.{arith}
use Rattle.tlv.proofs.sized.Goals as goal

pub overflow_add-from : goal.overflow_add-from
unfolding count_in
overflow_add-from c = let k = rw c.in-Some.is at c.size_of.ensures.result_bound.0 in omega
    (arith, k, c.requires)

pub overflow_add-from-in-Some : goal.overflow_add-from-in-Some
unfolding count_in
overflow_add-from-in-Some c = let k = rw c.in-Some.is at
    c.size_of.ensures.result_bound.0 in let n = rw c.in-Some.is at
    c.size_of.ensures.result_bound.1 in omega
    (arith, k, n, c.requires)

pub returns-in-Some : goal.returns-in-Some
unfolding sized size_at
returns-in-Some c = rw (
  ← c.octet-c.ensures,
  ← c.octet-b.ensures,
  ← c.octet-a.ensures,
  ← c.size_of.ensures.value,
  c.in-Some.is,
)
    c.ends_within.ensures

pub returns-in-None : goal.returns-in-None
unfolding sized size_at
returns-in-None c = rw (
  ← c.octet-c.ensures,
  ← c.octet-b.ensures,
  ← c.octet-a.ensures,
  ← c.size_of.ensures.value,
  c.in-None.is,
)
    c.refuse.ensures

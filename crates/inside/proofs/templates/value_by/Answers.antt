-- The tests of the definition; the bounds are those of a length.
use native.Mathlib.Omega.{arith}
use borrow.Author.Tests.{le-leb}
use Rattle.tlv.specs.Element.{size_of, size_at}
use Rattle.tlv.specs.Places.{stretch_by}
use Rattle.tlv.specs.Inner.Counts.{count_in}
use Rattle.inside.proofs.templates.value_by.Goals as goal

pub returns-then-a-le127 : goal.returns-then-a-le127
unfolding stretch_by size_at size_of
returns-then-a-le127 c = (rw (← c.octet-a.ensures, le-leb _ _ c.if-a-le127.true), omega arith)

pub overflow_add-from-in-Some : goal.overflow_add-from-in-Some
unfolding count_in
overflow_add-from-in-Some c =
    let told = rw c.in-Some.is at c.size_of.ensures.result_bound.0 in
    omega (arith, told, c.requires)

pub overflow_add-result-in-Some : goal.overflow_add-result-in-Some
unfolding count_in
overflow_add-result-in-Some c =
    let told = rw c.in-Some.is
    at c.size_of.ensures.result_bound.0 in
    let count = rw c.in-Some.is
    at c.size_of.ensures.result_bound.1 in
    omega (arith, told, count, c.requires)

pub returns-in-Some : goal.returns-in-Some
unfolding stretch_by size_at count_in
returns-in-Some c =
    let told = rw c.in-Some.is
    at c.size_of.ensures.result_bound.0 in (
      rw (
        ← c.octet-a.ensures,
        ← c.octet-b.ensures,
        ← c.octet-c.ensures,
        ← c.size_of.ensures.value,
        c.in-Some.is,
      ),
      omega (arith, told),
    )

pub returns-in-None : goal.returns-in-None
unfolding stretch_by size_at
returns-in-None c = (
  rw (
    ← c.octet-a.ensures,
    ← c.octet-b.ensures,
    ← c.octet-c.ensures,
    ← c.size_of.ensures.value,
    c.in-None.is,
  ),
  omega arith,
)

-- The tests of the definition, in its order; the bounds are those of octets.
use borrow.Author.Rules.{rules}
use borrow.Author.Tests.{eq-eqb, le-leb, lt-leb, ne_eqb}
use Rattle.tlv.specs.Element.{size_of}
use Rattle.tlv.specs.Inner.Counts.{count_in}
use native.Mathlib.Omega.{arith}
use Rattle.tlv.proofs.size_of.Goals as goal

pub returns-then-b-ge128 : goal.returns-then-b-ge128
unfolding size_of count_in
returns-then-b-ge128 c = record {
  value = simp (lt-leb _ _ c.if-a-le127.false, eq-eqb _ _ c.if-a-eq129.true, le-leb _ _ c.if-b-ge128.true);
  result_bound = (search rules, omega (arith, c.ranges.b));
}

pub returns-then-b-ge1 : goal.returns-then-b-ge1
unfolding size_of count_in
returns-then-b-ge1 c = record {
  value = simp (
    lt-leb _ _ c.if-a-le127.false,
    ne_eqb _ _ c.if-a-eq129.false,
    eq-eqb _ _
        c.if-a-eq130.true,
    le-leb _ _ c.if-b-ge1.true,
  );
  result_bound = (search rules, omega (arith, c.ranges.b, c.ranges.c));
}

pub returns : goal.returns
unfolding size_of count_in
returns c = record {
  value = simp (lt-leb _ _ c.if-a-le127.false, ne_eqb _ _ c.if-a-eq129.false, ne_eqb _ _ c.if-a-eq130.false);
  result_bound = (search rules, search rules);
}

pub returns-then-a-le127 : goal.returns-then-a-le127
unfolding size_of count_in
returns-then-a-le127 c = record {
  value = rw (le-leb _ _ c.if-a-le127.true);
  result_bound = (search rules, omega (arith, c.if-a-le127.true));
}

pub returns-then-a-eq129 : goal.returns-then-a-eq129
unfolding size_of count_in
returns-then-a-eq129 c = record {
  value = simp (c.if-a-eq129.true, lt-leb _ _ c.if-b-ge128.false);
  result_bound = (search rules, search rules);
}

pub returns-then-a-eq130 : goal.returns-then-a-eq130
unfolding size_of count_in
returns-then-a-eq130 c = record {
  value = simp (c.if-a-eq130.true, lt-leb _ _ c.if-b-ge1.false);
  result_bound = (search rules, search rules);
}

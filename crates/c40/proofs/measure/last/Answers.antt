-- Each return by the tests that led to it, in the order of `last_pair`.
use Rattle.c40.specs.Reader.{last_pair, two, one}
use Rattle.c40.specs.Inner.Left.{fitted}
use Rattle.c40.proofs.measure.last.Goals as goal

pub returns-then-is_two : goal.returns-then-is_two
unfolding last_pair fitted two one
returns-then-is_two c = let v = c.values_of.ensures.0 in
    let is_two = rw (c.is_two.ensures, v) at c.if-is_two.true in
    rw is_two c.behind.ensures

pub returns-then-is_one : goal.returns-then-is_one
unfolding last_pair fitted two one
returns-then-is_one c = let v = c.values_of.ensures.0 in
    let two = c.is_two.ensures in
    let noTwo = rw (two, v) at c.if-is_two.false in
    let is_one = rw c.is_one.ensures at c.if-is_one.true in
    rw (noTwo, is_one) c.behind-then-is_one.ensures

pub returns-else-is_one : goal.returns-else-is_one
unfolding last_pair fitted two one
returns-else-is_one c = let v = c.values_of.ensures.0 in
    let two = c.is_two.ensures in
    let noTwo = rw (two, v) at c.if-is_two.false in
    let noOne = rw c.is_one.ensures at c.if-is_one.false in
    rw (noTwo, noOne)

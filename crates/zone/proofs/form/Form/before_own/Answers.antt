-- Where the data begin tells whether they stand in the optional field (`own-in-optional`).
use borrow.Author.Tests.{ltb-true}
use native.Mathlib.Omega.{arith}
use lib.Dec.{ltb}
use Rattle.lent.proofs.Bools.{and_both}
use Rattle.zone.specs.Part.{optional, same}
use Rattle.zone.specs.Form.{own_part, before_own}
use Rattle.zone.specs.Inner.Places.{places_of}
use Rattle.zone.proofs.Own.{own_in_optional}
use Rattle.zone.proofs.form.Form.before_own.Goals as goal

pub overflow_sub-result : goal.overflow_sub-result
unfolding places_of
overflow_sub-result c =
    let a = c.args in
    let told = rw (c.places-at.ensures, own_in_optional a.self) at c.if-at-n.true in
    omega (arith, ltb-true 9 a.n (and_both (same (own_part a.self) optional) (ltb 9 a.n) told).1)

pub returns-then-at-n : goal.returns-then-at-n
unfolding before_own places_of
returns-then-at-n c =
    let a = c.args in
    let told = rw (c.places-at.ensures, own_in_optional a.self) at c.if-at-n.true in
    rw told

pub returns-else-at-n : goal.returns-else-at-n
unfolding before_own places_of
returns-else-at-n c =
    let a = c.args in
    let told = rw (c.places-at.ensures, own_in_optional a.self) at c.if-at-n.false in
    rw told

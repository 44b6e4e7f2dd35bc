-- Group 13 is one element; of another the list that it holds is counted.
use Prim.Native.Nat.{◌≤◌}
use mathlib.Core.Path.{sym}
use native.Mathlib.Numerals.{add-one}
use native.Mathlib.Omega.{arith}
use borrow.Author.Tests.{eq-eqb, ne_eqb}
use lib.ListN.{length, take, length-take}
use Rattle.tlv.proofs.Told.{exit_read}
use Rattle.tlv.specs.Read.{and_then}
use Rattle.inside.specs.Inner.Behind.{elements_in}
use Rattle.inside.proofs.Heads.{counted_within}
use Rattle.inside.proofs.elements_in.Goals as goal

pub returns-then-group-eq13 : goal.returns-then-group-eq13
unfolding elements_in
returns-then-group-eq13 c = rw (eq-eqb _ _ c.if-group-eq13.true)

pub returns-in_err-held : goal.returns-in_err-held
unfolding elements_in and_then
returns-in_err-held c =
    rw (
      exit_read _ c.from_residual.result c.from_residual.ensures.1,
      ne_eqb _ _ c.if-group-eq13.false,
      ← c.part.ensures,
      ← c.in_err-held.ensures,
    )

pub overflow_add-result : goal.overflow_add-result
overflow_add-result c =
    let a = c.args in
    let s = take a.v.to a.s.now in
    let f = rw c.part.ensures at (sym c.in_ok-held.ensures) in
    let within = counted_within 7 s a.v.from c.in_ok-held.held f in
    let part : length s ≤ length a.s.now = rw length-take (omega arith) in
    omega (arith, within, part)

pub returns : goal.returns
unfolding elements_in and_then
returns c = rw (ne_eqb _ _ c.if-group-eq13.false, ← c.part.ensures, ← c.in_ok-held.ensures, add-one c.in_ok-held.held)

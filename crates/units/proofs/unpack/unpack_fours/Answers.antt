use borrow.Author.Rules.{rules}
use Prim.Native.Nat.{◌<◌, ◌+◌, ◌*◌, ◌/◌, ◌%◌}
use mathlib.Core.Path.{◌≡◌, ◌∙◌}
use native.Mathlib.Omega.{arith}
use lib.ListN.{length-set}
use Rattle.units.proofs.Reading.{four_read, unpack_more, unpack_ends}
use Rattle.units.proofs.unpack.unpack_fours.Goals as goal

pub loop-i-preserved : goal.loop-i-preserved
loop-i-preserved c =
    let number = c.bits_of_four-number.result in
    let less = c.bits_of_four-number.ensures.1 in
    let l = c.loop-i in
    let told = c.characters-table.ensures in
    let a = c.args in
    let h : l.i < a.fours = omega arith in
    let e : 8 * (a.at / 8 + 3 * l.i) + a.at % 8 ≡ a.at + 24 * l.i = omega arith in
    let told-number = rw e at c.bits_of_four-number.ensures.0 in (
      simp length-set (search rules),
      rw (
        told (number / 262144) (omega arith),
        told (number / 4096 % 64) (omega arith),
        told (number / 64 % 64) (omega arith),
        told (number % 64) (omega arith),
        l.invariant.1,
      )
          (unpack_more a.to.now a.s.now a.at a.fours l.i number (search rules) h
          (four_read a.s.now (a.at + 24 * l.i) number told-number)),
    )

pub returns : goal.returns
returns c =
    let l = c.loop-i in
    let a = c.args in
    let e : l.i ≡ a.fours = omega arith in
    l.invariant.1 ∙ unpack_ends a.to.now a.s.now a.at a.fours l.i (search rules) e

pub bounds-to-i-in-loop-i : goal.bounds-to-i-in-loop-i
bounds-to-i-in-loop-i c = simp length-set (search rules)

pub bounds-to-i-in-loop-i-2 : goal.bounds-to-i-in-loop-i-2
bounds-to-i-in-loop-i-2 c = simp length-set (search rules)

pub bounds-to-i-in-loop-i-3 : goal.bounds-to-i-in-loop-i-3
bounds-to-i-in-loop-i-3 c = simp length-set (search rules)

-- The characters stand at the front, and there are as many as were asked for; where there are not, none.
use borrow.Author.Rules.{rules}
use mathlib.Core.Path.{◌≡◌, sym, ap, ◌∙◌}
use mathlib.Core.Bool.{true}
use lib.ListN.{length, drop}
use lib.Seq.{length-take-le, take_at}
use Rattle.c40.specs.Field.{is_field, field_at}
use Rattle.c40.proofs.Exactly.{field_length, no_field}
use Rattle.seal_header.proofs.reference.read.Goals as goal

pub slice_bounds-field_at-end-2 : goal.slice_bounds-field_at-end-2
slice_bounds-field_at-end-2 c = let a = c.args in
    sym (length-take-le a.count a.room.now (search rules))

pub returns-then-field_at : goal.returns-then-field_at
returns-then-field_at c = let a = c.args in
    let s = a.s.now in
    let n = length-take-le a.count a.room.now (search rules) in
    let f = c.field_at in
    let back = f.new.out in
    let is : is_field s 4 a.count ≡ true = rw n at (sym f.ensures.answer ∙ c.if-field_at.true) in
    let out : back ≡ field_at s 4 a.count = rw (n, is) at f.ensures.output in
    let full = ap length out ∙ field_length s 4 a.count is in
    take_at back (drop a.count a.room.now) a.count full ∙ out

pub returns-else-field_at : goal.returns-else-field_at
returns-else-field_at c = let a = c.args in
    let n = length-take-le a.count a.room.now (search rules) in
    let f = c.field_at in
    sym (no_field a.s.now 4 a.count (rw n at (sym f.ensures.answer ∙ c.if-field_at.false)))

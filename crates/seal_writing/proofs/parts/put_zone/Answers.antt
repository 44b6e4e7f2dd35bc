-- Its start, and then the signature.
use borrow.Author.Rules.{rules}
use Prim.Native.Nat.{◌+◌}
use mathlib.Core.Path.{◌∙◌}
use lib.ListN.{length}
use Rattle.lent.proofs.Lists.{copy_into}
use Rattle.seal_writing.proofs.PartsPut.{zone_room, zone_put, part_room}
use Rattle.seal_writing.proofs.parts.put_zone.Goals as goal

pub overflow_add-at : goal.overflow_add-at
overflow_add-at c =
    let a = c.args in
    let w = c.start_width in
    let room = zone_room a.signature.now a.at (length a.out.now) w.result
    c.requires.1 w.ensures.0 in
    search (rules, room)

pub slice_bounds-copy_all-count : goal.slice_bounds-copy_all-count
slice_bounds-copy_all-count c =
    let a = c.args in
    let w = c.start_width in
    let room = zone_room a.signature.now a.at (length a.out.now) w.result
    c.requires.1 w.ensures.0 in
    search (rules, room)

pub slice_bounds-copy_all-start : goal.slice_bounds-copy_all-start
slice_bounds-copy_all-start c =
    let a = c.args in
    let w = c.start_width in
    let room = zone_room a.signature.now a.at (length a.out.now) w.result
    c.requires.1 w.ensures.0 in
    search (rules, room)

pub copy_all-requires : goal.copy_all-requires
copy_all-requires c =
    let a = c.args in
    let w = c.start_width in
    let room = zone_room a.signature.now a.at (length a.out.now) w.result
    c.requires.1 w.ensures.0 in
    part_room c.put_start.new.out (a.at + w.result) (length a.signature.now)
    (length a.out.now) (search rules)
    room

pub returns : goal.returns
returns c =
    let mid = c in
    let a = mid.args in
    let w = c.start_width in
    let start = c.put_start.new.out in
    let g = a.signature.now in
    copy_into start (a.at + w.result) g c.copy_all.new.to c.copy_all.ensures
    ∙ zone_put a.out.now start a.at w.result g mid.requires.1 w.ensures.0
    c.put_start.ensures

-- What may be entered has the size that was tested.
use mathlib.Core.Path.{◌∙◌}
use borrow.Author.Tests.{le-leb, lt-leb}
use native.Mathlib.Omega.{arith}
use Rattle.lent.proofs.Bools.{and_both}
use Rattle.sound.specs.Sound.{is_sound}
use Rattle.sound.proofs.SoundRecord.{taken_apart}
use Rattle.entry.specs.Entry.{is_house, entry_answer, entry_out}
use Rattle.entry.proofs.EntryUnits.{both_most, size_by_lem}
use Rattle.entry.proofs.write.write.Goals as goal

pub overflow_add-r : goal.overflow_add-r
overflow_add-r c =
    let a = c.args in
    let kept = rw (c.is_sound.ensures, c.is_house.ensures) at
    c.if-is_house-is_sound.true in
    omega (arith, both_most a.r (taken_apart a.r (and_both (is_house a.house) (is_sound a.r) kept).1))

pub size-octets-requires : goal.size-octets-requires
size-octets-requires c =
    let a = c.args in
    let kept = rw (c.is_sound.ensures, c.is_house.ensures) at
    c.if-is_house-is_sound.true in
    both_most a.r (taken_apart a.r (and_both (is_house a.house) (is_sound a.r) kept).1)

pub write_octets-requires : goal.write_octets-requires
write_octets-requires c =
    let sized = c in
    let early = sized in
    let a = early.args in
    let kept = rw (early.is_sound.ensures, early.is_house.ensures) at early.if-is_house-is_sound.true in
    let both = and_both (is_house a.house) (is_sound a.r) kept in
    (both.0, both.1, rw (sized.size-octets.ensures, size_by_lem a.r) at c.if-octets-out.true)

pub returns-then-octets-out : goal.returns-then-octets-out
unfolding entry_answer entry_out
returns-then-octets-out c =
    let early = c in
    let s = c.size-octets.ensures ∙ size_by_lem early.args.r in
    let kept = rw (early.is_sound.ensures, early.is_house.ensures) at early.if-is_house-is_sound.true in
    let h = le-leb _ _ (rw s at c.if-octets-out.true) in
    record { answer = rw (kept, h, s); output = rw (kept, h) c.write_octets.ensures }

pub returns-else-octets-out : goal.returns-else-octets-out
unfolding entry_answer entry_out
returns-else-octets-out c =
    let early = c in
    let kept = rw (early.is_sound.ensures, early.is_house.ensures) at early.if-is_house-is_sound.true in
    let s = c.size-octets.ensures ∙ size_by_lem early.args.r in
    let h = rw s at (lt-leb _ _ c.if-octets-out.false) in
    record { answer = rw (kept, h); output = rw (kept, h) }

pub returns-else-is_house-is_sound : goal.returns-else-is_house-is_sound
unfolding entry_answer entry_out
returns-else-is_house-is_sound c =
    let kept = rw (c.is_sound.ensures, c.is_house.ensures) at c.if-is_house-is_sound.false in
    record { answer = rw kept; output = rw kept }

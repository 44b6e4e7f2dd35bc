-- What was measured decides whether there are as many characters as there is room for; only then they are written. The octets
-- that were cut out are the field's.
use mathlib.Core.Path.{sym, ◌∙◌}
use lib.ListN.{length}
use Rattle.c40.specs.Reader.{read_c40}
use Rattle.c40.specs.Field.{octets_for, image_at, is_field, field_at}
use Rattle.c40.proofs.Storing.{decided, field_written}
use Rattle.c40.proofs.field.field_at.Goals as goal

pub write-requires : goal.write-requires
write-requires c =
    let m = length c.args.out.now in
    let r = read_c40 c.part-image.result.now in
    let told = rw (c.eq.ensures, c.measured.ensures, decided r m) at c.if-eq.true in
    (field_written r m told).0

pub returns-then-eq : goal.returns-then-eq
unfolding is_field field_at image_at octets_for
returns-then-eq c =
    let m = length c.args.out.now in
    let r = read_c40 c.part-image.result.now in
    let told = rw (c.eq.ensures, c.measured.ensures, decided r m) at c.if-eq.true in
    let stored = rw c.part-image.ensures at (c.write.ensures ∙ (field_written r m told).1) in
    let there = rw c.part-image.ensures at told in
    record { answer = sym there; output = rw there stored }

pub returns : goal.returns
unfolding is_field field_at image_at octets_for
returns c =
    let m = length c.args.out.now in
    let none = rw (c.eq.ensures, c.measured.ensures, decided (read_c40 c.part-image.result.now) m, c.part-image.ensures) at
    c.if-eq.false in
    record { answer = sym none; output = rw none }

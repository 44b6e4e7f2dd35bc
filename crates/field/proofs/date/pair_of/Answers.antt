-- The tests that led to each `return` are those of `pair_of`; a filler is no digit.
use Prim.Native.Char.{code}
use lib.Dec.{eqb}
use borrow.Author.Tests.{eqb-true, le-leb, lt-leb}
use Rattle.lent.proofs.Tests.{tests}
use Rattle.lent.proofs.Bools.{and_both}
use Rattle.zone.specs.Alphabet.{is_digit, filler, is_filler}
use Rattle.field.specs.Date.{pair_of}
use Rattle.field.proofs.date.pair_of.Goals.{in_default-via-then-a-lt48, in_default-via-else-a-lt48+else-a-lt58}
use Rattle.field.proofs.date.pair_of.Goals as goal

pub returns-in-48-to-57-b : goal.returns-in-48-to-57-b
unfolding pair_of is_digit is_filler
returns-in-48-to-57-b c = search tests

pub returns-in_default-b : goal.returns-in_default-b
unfolding pair_of is_digit is_filler
returns-in_default-b c = search tests

pub returns-in_default-b-2 : goal.returns-in_default-b-2
unfolding pair_of is_digit is_filler
returns-in_default-b-2 c = search tests

pub returns-then-a-b : goal.returns-then-a-b
unfolding pair_of is_digit is_filler
returns-then-a-b c = let a = c.args in
    let p = and_both (eqb a.a filler) (eqb a.b filler) c.if-a-b.true in
    rw (eqb-true a.a filler p.0, p.1)

pub returns-else-a-b : goal.returns-else-a-b
unfolding pair_of is_digit is_filler
returns-else-a-b c =
    elim c.in_default.branch [
      | in_default-via-then-a-lt48 w ↦ simp (lt-leb _ _ w.if-a-lt48-1.true, c.if-a-b.false)
      | in_default-via-else-a-lt48+else-a-lt58 w ↦ simp
          (le-leb _ _ w.if-a-lt48-1.false, lt-leb _ (code "9") w.if-a-lt58-1.false, c.if-a-b.false)
    ]

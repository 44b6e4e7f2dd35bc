-- Each call puts its part, the last where the form has it.
use borrow.Author.Tests.{lt-ltb, le-ltb}
use Rattle.zone.specs.Record.{held_rows}
use Rattle.zone.specs.Inner.Places.{places_of}
use Rattle.digit.proofs.CoveredSum.{composite_digit}
use Rattle.writing.specs.Inner.Puts.{mark, put_last}
use Rattle.writing.proofs.parts.put_last.Goals as goal

pub returns-then-composite_width-gt0 : goal.returns-then-composite_width-gt0
unfolding put_last mark places_of held_rows
returns-then-composite_width-gt0 c =
    let digit = c in
    let marked = digit in
    let there = rw digit.composite_width.ensures at
    (lt-ltb _ _ digit.if-composite_width-gt0.true) in
    rw (
      c.put-then-composite_width-gt0.ensures,
      digit.digit_by-d.ensures,
      digit.of.ensures,
      marked.put.ensures,
      marked.own_digit-personal.ensures,
      marked.places-at.ensures,
      there,
      composite_digit _ _ there,
    )

pub returns-else-composite_width-gt0 : goal.returns-else-composite_width-gt0
unfolding put_last mark places_of held_rows
returns-else-composite_width-gt0 c =
    let none = rw c.composite_width.ensures at (le-ltb _ _ c.if-composite_width-gt0.false) in
    let marked = c in
    rw (
      marked.put.ensures,
      marked.own_digit-personal.ensures,
      marked.places-at.ensures,
      none,
    )

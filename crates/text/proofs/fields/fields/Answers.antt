-- The checks joined in the order of the form's layout.
use Rattle.refusal.proofs.Outcomes.{and_else}
use Rattle.zone.specs.Inner.Places.{places_of}
use Rattle.text.proofs.Walks.{fields_in_order}
use Rattle.text.proofs.fields.fields.Goals as goal

pub returns : goal.returns
unfolding places_of
returns c =
    let a = c.args in
    let s = a.span in
    rw (
      c.and.ensures,
      and_else,
      c.in_turn-2.ensures,
      c.and-holder.ensures,
      and_else,
      c.in_turn.ensures,
      c.person_check-person.ensures s,
      c.nationality_check-nationality.ensures s,
      c.number_check-number.ensures,
      c.name_check-name.ensures s,
      c.opening_check-opening.ensures s,
      c.places-at.ensures,
    )
    (fields_in_order a.form a.text.now s)

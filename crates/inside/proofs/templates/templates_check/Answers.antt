-- The first 7F61 is found, and then what stands in it.
use mathlib.Core.Path.{ap, sym, ◌∙◌}
use native.Mathlib.Omega.{arith}
use borrow.Author.Tests.{ne_eqb}
use Rattle.std.specs.Prelude.{unwrap_or}
use Rattle.std.proofs.lemmas.Option.{unwrap_or-slice_get}
use Rattle.inside.specs.declared.templates.Tally.{Tally}
use Rattle.inside.specs.Templates.{template_group, directly, with_tag, first_group, templates_check}
use Rattle.inside.specs.Inner.Tally.{tally_of, tallied}
use Rattle.inside.proofs.Tallies.{first_within}
use Rattle.inside.proofs.templates.templates_check.Goals as goal

pub value_here-v-requires : goal.value_here-v-requires
unfolding tally_of tallied
value_here-v-requires c =
    let a = c.args in
    let places = with_tag a.s.now template_group (directly a.s.now a.at) in
    let first = c.unwrap_or-first.ensures ∙ (ap (λ (t : Tally). unwrap_or t.first 0) c.tally_of.ensures
    ∙ unwrap_or-slice_get places 0 0) in
    rw first (first_within a.s.now template_group a.at)

pub count_holds-holds-requires : goal.count_holds-holds-requires
unfolding tally_of tallied
count_holds-holds-requires c =
    let a = c.args in
    let places = with_tag a.s.now template_group (directly a.s.now a.at) in
    let first = c.unwrap_or-first.ensures ∙ (ap (λ (t : Tally). unwrap_or t.first 0) c.tally_of.ensures
    ∙ unwrap_or-slice_get places 0 0) in
    omega (arith, first, first_within a.s.now template_group a.at, c.value_here-v.ensures.1)

pub returns-then-first-eq0 : goal.returns-then-first-eq0
unfolding templates_check first_group tally_of tallied
returns-then-first-eq0 c =
    let a = c.args in
    let places = with_tag a.s.now template_group (directly a.s.now a.at) in
    let first = c.unwrap_or-first.ensures ∙ (ap (λ (t : Tally). unwrap_or t.first 0) c.tally_of.ensures
    ∙ unwrap_or-slice_get places 0 0) in
    rw (sym first ∙ c.if-first-eq0.true, c.at.ensures)

pub returns : goal.returns
unfolding templates_check first_group tally_of tallied
returns c =
    let a = c.args in
    let places = with_tag a.s.now template_group (directly a.s.now a.at) in
    let first = c.unwrap_or-first.ensures ∙ (ap (λ (t : Tally). unwrap_or t.first 0) c.tally_of.ensures
    ∙ unwrap_or-slice_get places 0 0) in
    c.unless.ensures
    ∙ rw (
      c.count_holds-holds.ensures,
      c.part.ensures,
      c.value_here-v.ensures.0,
      ← first,
      ne_eqb _ _ c.if-first-eq0.false,
    )

-- Where every octet is a character there is none outside; else the closure's test is that of `is_foreign`.
use borrow.Author.Rules.{rules}
use borrow.Author.Tests.{tests}
use mathlib.Core.Path.{sym, ◌∙◌}
use Rattle.std.proofs.lemmas.Iterator.{YieldsList-from_slice}
use Rattle.std.proofs.lemmas.Iterator.Search.{position_from_yields_List}
use Rattle.zone.specs.Alphabet.{is_character, is_foreign, first_foreign}
use Rattle.zone.proofs.Every.{every_first}
use Rattle.zone.proofs.First.{position_first}
use Rattle.zone.proofs.alphabet.first_foreign.Goals as goal

pub returns-then-all_characters : goal.returns-then-all_characters
unfolding is_foreign first_foreign
returns-then-all_characters c = let s = c.args.s.now in
    sym (every_first is_character s (sym c.all_characters.ensures ∙ c.if-all_characters.true))

pub returns : goal.returns
unfolding is_foreign first_foreign
returns c = let s = c.args.s.now in
    let ran = c.position.ensures.ran in
    let found = position_from_yields_List is_foreign _ _ c.position.result ran (YieldsList-from_slice s cc)
    (λ x b q k. search (rules, tests)) in
    rw (c.unwrap_or.ensures, found) (position_first is_foreign s)

-- The closure's test is that of `is_filler`.
use borrow.Author.Rules.{rules}
use borrow.Author.Tests.{tests}
use Rattle.std.proofs.lemmas.Iterator.{YieldsList-from_slice}
use Rattle.std.proofs.lemmas.Iterator.Search.{position_from_yields_List}
use Rattle.zone.specs.Alphabet.{is_filler, first_filler}
use Rattle.zone.proofs.First.{position_first}
use Rattle.zone.proofs.alphabet.first_filler.Goals as goal

pub returns : goal.returns
unfolding is_filler first_filler
returns c = let s = c.args.s.now in
    let ran = c.position.ensures.ran in
    let found = position_from_yields_List is_filler _ _ c.position.result ran (YieldsList-from_slice s cc)
    (λ x b q k. search (rules, tests)) in
    rw (c.unwrap_or.ensures, found) (position_first is_filler s)

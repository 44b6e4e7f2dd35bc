-- What each character counts, and then the sums.
use Rattle.digit.proofs.composite.Sums.of.Goals as goal

pub returns : goal.returns
returns c = c.by.ensures c.args.text.now c.counts-all.ensures

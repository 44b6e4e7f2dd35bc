-- One call on the characters.
use Rattle.digit.proofs.composite.some.Goals as goal

pub returns : goal.returns
returns c = (rw (c.weighed.ensures.0, c.counted.ensures), c.weighed.ensures.1)

-- Some group, or none.
use Rattle.tlv.specs.Tags.{is_group}
use Rattle.tlv.proofs.tags.is_group.Goals as goal

pub returns : goal.returns
unfolding is_group
returns c = rw (← c.group_of.ensures.0)

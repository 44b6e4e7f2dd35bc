-- What `lamphudet_read_seal` promises, with the lines of its `ensures` (lamphudet_seals, src/lib.rt): what C receives, what the
-- range holds afterwards, and that what was lent is octets. So what is shown of octets is shown of every call.
use Rattle.std.specs.Prelude.{ℕ, ◌≡◌, List}
use Rattle.zone.specs.Octets.{AreOctets}
use Rattle.lamphudet_seals.specs.declared.received.SealInC.{SealInC}
use Rattle.lamphudet_seals.specs.Answer.{read_seal_in_c, read_seal_out}

pub record ReadsSeal (house : ℕ) (s out : List ℕ) (r : SealInC) (after : List ℕ) : Type 0 where
  pub answers : r ≡ read_seal_in_c house s out
  pub leaves : after ≡ read_seal_out house s out
  pub octets : AreOctets s

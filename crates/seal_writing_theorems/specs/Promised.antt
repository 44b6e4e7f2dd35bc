-- What `lamphudet_write_seal` promises, with the lines of its `ensures` (lamphudet_seals, src/lib.rt): what C receives, what the
-- range holds afterwards, and that what was lent is octets.
use Rattle.std.specs.Prelude.{ℕ, ◌≡◌, List}
use Rattle.zone.specs.Octets.{AreOctets}
use Rattle.border.specs.declared.received.AnswerInC.{AnswerInC}
use Rattle.lamphudet_seals.specs.declared.received.HeaderInC.{HeaderInC}
use Rattle.lamphudet_seals.specs.Given.{written_out, write_seal_in_c}

pub record WritesSealInC (e : List ℕ) (h : HeaderInC) (g out : List ℕ) (r : AnswerInC) (after : List ℕ) : Type 0 where
  pub answers : r ≡ write_seal_in_c e h g out
  pub leaves : after ≡ written_out e h g out
  pub octets : AreOctets e × AreOctets g

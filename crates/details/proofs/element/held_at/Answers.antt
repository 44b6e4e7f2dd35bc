-- The value, or nothing at that place.
use Rattle.std.specs.Prelude.{ℕ, ◌≡◌, Result, Ok, Err}
use Rattle.std.specs.Result.{result_unwrap_or}
use mathlib.Core.Path.{refl, ap, ◌∙◌}
use Rattle.refusal.specs.declared.Refusal.{Refusal}
use Rattle.tlv.specs.declared.Stretch.{Stretch}
use Rattle.tlv.specs.Read.{read_of}
use Rattle.details.specs.Inner.Places.{held_or, held_at}
use Rattle.details.proofs.element.held_at.Goals as goal

held : (at : ℕ) (r : Result Stretch Refusal) → result_unwrap_or r (record { from = at; to = at }) ≡ held_or at (read_of r)
unfolding held_or
held at (Ok v) = refl
held at (Err r) = refl

pub returns : goal.returns
unfolding held_at
returns c = c.unwrap_or.ensures ∙ held c.args.at c.detail_at.result ∙ ap (held_or c.args.at) c.detail_at.ensures

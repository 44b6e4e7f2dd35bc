-- The demands are not empty: document 01's T3 is accepted (`T3-accepted`, with the starred examples), its record is sound, and a
-- presentation around it, of LDS 1.7 or 1.8, is accepted with that record.
use mathlib.Core.Path.{◌≡◌, ap, ◌∙◌}
use mathlib.Core.Bool.{Bool, true}
use Rattle.zone.specs.declared.form.Source.TheVariants.{Alone, GroupOne}
use Rattle.lent.specs.Octets.{octets}
use Rattle.refusal.specs.Outcome.{passed}
use Rattle.sound.specs.Sound.{is_sound}
use Rattle.text.specs.Read.{Answer, read_text}
use Rattle.chip.specs.Presentation.{read_presentation}
use Rattle.text_theorems.proofs.RecordOfText.{kept_and_sound}
use Rattle.presentation_theorems.specs.Presented.{octets_of, around}
use Rattle.presentation_theorems.proofs.TextsCarried.{every_text_carried}
use Rattle.demands.specs.Examples.{T3}
use Rattle.demands.proofs.Starred.{T3-accepted}

pub T3-sound : is_sound (read_text Alone (octets T3)).kept ≡ true
T3-sound = (kept_and_sound Alone (octets T3) (T3-accepted Alone)).3

pub T3-carried : (newer : Bool) → read_presentation (octets_of (around newer (octets T3))) ≡ read_text GroupOne (octets T3)
T3-carried newer = (every_text_carried newer (octets T3) (T3-accepted GroupOne)).1

pub T3-carried-accepted : (newer : Bool) → (read_presentation (octets_of (around newer (octets T3)))).outcome ≡ passed
T3-carried-accepted newer = ap (λ (a : Answer). a.outcome) (T3-carried newer) ∙ T3-accepted GroupOne

-- The signature zone: document 02, 2026-08, "then FF, a length and the signature". "27, signature zone missing, wrongly coded,
-- cut off or followed by anything, at FF or the end".
use Rattle.std.specs.Prelude.{ℕ, List, eqb, length}
use Rattle.refusal.specs.Numbers.{by}
use Rattle.refusal.specs.Outcome.{unless}
use Rattle.tlv.specs.declared.Stretch.{Stretch}
use Rattle.tlv.specs.Read.{Read, value, and_then, checked}
use Rattle.tlv.specs.Element.{element}
use Rattle.seal_features.specs.Features.{numbered, signature_tag}

unfoldable pub signature_at : List ℕ → ℕ → Read Stretch
signature_at s at =
    and_then (numbered (by 27) (element s at signature_tag)) (λ v. checked (unless (eqb v.to (length s)) 27 at) (value v))

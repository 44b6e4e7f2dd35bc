-- NO SECOND ANSWER meets the promise of a detail (`only_detail`). That of the full name is an equation.
use Prim.Native.Nat.{ℕ}
use mathlib.Core.Path.{◌≡◌, sym, ◌∙◌}
use mathlib.Core.List.{List}
use Rattle.std.specs.Prelude.{Result}
use Rattle.refusal.specs.declared.Refusal.{Refusal}
use Rattle.tlv.specs.declared.Stretch.{Stretch}
use Rattle.tlv.specs.Read.{read_of}
use Rattle.tlv.proofs.Told.{read_tells}
use Rattle.details.specs.Details.{read_detail}

pub only_detail : (s : List ℕ) (asked : ℕ) (r q : Result Stretch Refusal) → read_of r ≡ read_detail s asked
    → read_of q ≡ read_detail s asked → r ≡ q
only_detail s asked r q e f = read_tells r q (e ∙ sym f)

-- What a C host may rely on of `lamphudet_read_seal`, of what the call promises (specs/Promised): that what was lent is octets is
-- among it, so that nothing is left for a host to show.
use Prim.Native.Nat.{ℕ}
use mathlib.Core.Path.{◌≡◌}
use mathlib.Core.Logic.{◌↔◌}
use mathlib.Core.List.{List}
use Rattle.seal.specs.Seal.{read_seal}
use Rattle.lamphudet_seals.specs.declared.received.SealInC.{SealInC}
use Rattle.run_theorems.specs.Entered.{Allowed}
use Rattle.seal_theorems.specs.Sealed.{Contents, Sealed, octets_of}
use Rattle.seal_theorems.specs.Promised.{ReadsSeal}
use Rattle.seal_theorems.proofs.NumbersInC.{read_seal_exactly}

module _ (house : ℕ) (s out : List ℕ) (r : SealInC) (after : List ℕ) (call : ReadsSeal house s out r after) where
  pub seal_call_exactly : (r.number ≡ 0)
      ↔ Allowed ((p : Contents) × (s ≡ octets_of p) × Sealed p) house (read_seal s).kept out
  seal_call_exactly = rw call.answers (read_seal_exactly house s out call.octets)

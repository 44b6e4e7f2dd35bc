-- NO SECOND ANSWER meets the promise of looking over a list (`only_look_over`). Of a house's stretch and its entries the promise
-- is the answer itself.
use Prim.Native.Nat.{ℕ}
use mathlib.Core.Path.{◌≡◌, sym, ◌∙◌}
use mathlib.Core.List.{List}
use Rattle.std.specs.Prelude.{Result}
use Rattle.refusal.specs.declared.Refusal.{Refusal}
use Rattle.tlv.specs.Read.{read_of}
use Rattle.tlv.proofs.Told.{read_tells}
use Rattle.nightly.specs.List.{look_over}

pub only_look_over : (w : List ℕ) (r q : Result ℕ Refusal) → read_of r ≡ look_over w → read_of q ≡ look_over w → r ≡ q
only_look_over w r q e f = read_tells r q (e ∙ sym f)

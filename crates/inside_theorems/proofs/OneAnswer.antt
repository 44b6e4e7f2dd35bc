-- NO SECOND ANSWER meets the promise of looking inside a file (`only_look`), nor that of the list walker (`only_list`).
use Prim.Native.Nat.{ℕ}
use mathlib.Core.Path.{◌≡◌, sym, ◌∙◌}
use mathlib.Core.List.{List}
use Rattle.std.specs.Prelude.{Result}
use Rattle.refusal.specs.declared.Refusal.{Refusal}
use Rattle.tlv.specs.Read.{read_of}
use Rattle.tlv.proofs.Told.{read_tells}
use Rattle.tree.specs.Inner.Passed.{counting}
use Rattle.inside.specs.Inside.{look_inside}

pub only_look : (s : List ℕ) (r q : Result ℕ Refusal) → read_of r ≡ look_inside s → read_of q ≡ look_inside s → r ≡ q
only_look s r q e f = read_tells r q (e ∙ sym f)

pub only_list : (levels : ℕ) (s : List ℕ) (at : ℕ) (r q : Result ℕ Refusal) → read_of r ≡ counting levels s at
    → read_of q ≡ counting levels s at → r ≡ q
only_list levels s at r q e f = read_tells r q (e ∙ sym f)

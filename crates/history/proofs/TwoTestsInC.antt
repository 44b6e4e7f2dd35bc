-- REQUEST 2026-09, at the C border: what the call answers and leaves is what it answers and leaves with the two tests put back.
use Prim.Native.Nat.{ℕ}
use mathlib.Core.Path.{◌≡◌}
use mathlib.Core.List.{List}
use Rattle.chip.specs.Presentation.{read_presentation}
use Rattle.border.specs.Answer.{in_c}
use Rattle.lamphudet.specs.Calls.{read_answer, read_out}
use Rattle.history.specs.TwoTests as tested
use Rattle.history.proofs.TwoTests.{presentation_same}

module _ (house : ℕ) (w entry : List ℕ) where
  -- the answer of `lamphudet_read_presentation`
  pub call_same : in_c (read_answer house (read_presentation w) entry)
      ≡ in_c (read_answer house (tested.read_presentation w) entry)
  call_same = rw (presentation_same w)

  -- and what it leaves in the lent range
  pub call_leaves_same : read_out house (read_presentation w) entry ≡ read_out house (tested.read_presentation w) entry
  call_leaves_same = rw (presentation_same w)

-- REQUEST 2026-04, at the C border: what `lamphudet_read_presentation` answers and leaves is what it did before, where a
-- presentation was accepted before, or says `0107` and has object version 0.
use Prim.Native.Nat.{ℕ}
use mathlib.Core.Path.{◌≡◌}
use mathlib.Core.List.{List}
use Rattle.refusal.specs.Outcome.{passed}
use Rattle.tlv.specs.Versions.{lds17}
use Rattle.chip.specs.Presentation.{read_presentation}
use Rattle.border.specs.Answer.{in_c}
use Rattle.lamphudet.specs.Calls.{read_answer, read_out}
use Rattle.history.specs.Versions.{read_formerly, lds_version, object_version}
use Rattle.history.proofs.Versions.{accepted_kept, older_same}

module _ (house : ℕ) (w entry : List ℕ) where
  pub accepted_call : (read_formerly w).outcome ≡ passed
      → (in_c (read_answer house (read_presentation w) entry) ≡ in_c (read_answer house (read_formerly w) entry))
      × (read_out house (read_presentation w) entry ≡ read_out house (read_formerly w) entry)
  accepted_call e = let same = accepted_kept w e in (rw same, rw same)

  pub older_call : lds_version w ≡ lds17 → object_version w ≡ 0
      → (in_c (read_answer house (read_presentation w) entry) ≡ in_c (read_answer house (read_formerly w) entry))
      × (read_out house (read_presentation w) entry ≡ read_out house (read_formerly w) entry)
  older_call a b = let same = older_same w a b in (rw same, rw same)

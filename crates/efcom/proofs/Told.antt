-- What was answered is told by what the papers say of it: `read_of` gives one reading to no two answers.
use mathlib.Core.Path.{◌≡◌}
use Rattle.std.specs.Prelude.{Result}
use Rattle.refusal.specs.declared.Refusal.{Refusal}
use Rattle.tlv.specs.Read.{read_of}
use Rattle.tlv.proofs.Told.{read_tells}
use Rattle.efcom.specs.declared.Common.{Common}

pub common_tells : (r s : Result Common Refusal) → read_of r ≡ read_of s → r ≡ s
common_tells r s e = read_tells r s e

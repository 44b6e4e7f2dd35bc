-- What was read of the file, or nothing.
use Rattle.std.specs.Prelude.{Result, Ok, Err}
use Rattle.std.specs.Result.{result_unwrap_or}
use mathlib.Core.Path.{◌≡◌, refl, ap, ◌∙◌}
use Rattle.refusal.specs.declared.Refusal.{Refusal}
use Rattle.tlv.specs.declared.Stretch.{Stretch}
use Rattle.tlv.specs.Read.{read_of}
use Rattle.full_name.specs.FullName.{in_file, value_in, nothing}
use Rattle.full_name.proofs.in_file.Goals as goal

pub returns : goal.returns
unfolding in_file value_in
returns c = c.unwrap_or.ensures ∙ (or_nothing c.read.result ∙ ap value_in c.read.ensures)
  where
    or_nothing : (r : Result Stretch Refusal) → result_unwrap_or r nothing ≡ value_in (read_of r)
    or_nothing (Ok v) = refl
    or_nothing (Err e) = refl

-- No words of the paper: what the code answers when it looks for a group's file.
use Rattle.outer.specs.declared.File.{File}
use Rattle.std.specs.Prelude.{ℕ, cond, List, eqb}
use Rattle.tlv.specs.declared.Stretch.{Stretch}
use Rattle.tlv.specs.Read.{Read, value, refusal}
use Rattle.chip.specs.Presentation.{first_file, file_or_none}

-- the first file of a group, where some files have been passed and some are left: the one that was found among those (it ends
-- behind 0), else the first of these; none where one that is left is refused
unfoldable pub or_found : List ℕ → (group : ℕ) → Stretch → Read (List File) → Stretch
or_found w group found (value fs) = cond (eqb found.to 0) (file_or_none (first_file w group fs)) found
or_found w group found (refusal n p) = record { from = 0; to = 0 }

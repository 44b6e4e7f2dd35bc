-- What C receives of group 11's details and of the full name: document 02, request 2026-01.
use Rattle.std.specs.Prelude.{ℕ}
use Rattle.tlv.specs.declared.Stretch.{Stretch}
use Rattle.tlv.specs.Read.{Read, value, refusal}
use Rattle.full_name.specs.declared.From.{From}
use Rattle.full_name.specs.declared.From.TheVariants.{Nowhere, File, Text}
use Rattle.full_name.specs.declared.Name.{Name}
use Rattle.border.specs.Answer.{not_refused, refused_in_c}
use Rattle.border.specs.Calls.{stretch_in_c}
use Rattle.border.specs.declared.received.DetailInC.{DetailInC}
use Rattle.border.specs.declared.received.NameInC.{NameInC}

-- the stretch of a detail, or the refusal and no stretch
unfoldable pub detail_in_c : Read Stretch → DetailInC
detail_in_c (value v) = record { answer = not_refused 0; stretch = stretch_in_c v }
detail_in_c (refusal why place) = record { answer = refused_in_c why place; stretch = record { start = 0; length = 0 } }

-- from which of the two a name is
unfoldable pub source_in_c : From → ℕ
source_in_c Nowhere = 0
source_in_c File = 1
source_in_c Text = 2

unfoldable pub name_in_c : Name → NameInC
name_in_c n = record { from = source_in_c n.from; stretch = stretch_in_c n.stretch }

-- The full name: document 02, request 2026-01, whose words are those in quotes: "A further call takes the group file and the text
-- and gives the name from whichever of the two holds it".
use Rattle.std.specs.Prelude.{ℕ, ◌+◌, Bool, cond, List, [], leb}
use Rattle.refusal.specs.Outcome.{Outcome, passed, refused}
use Rattle.zone.specs.declared.form.Source.TheVariants.{Alone}
use Rattle.zone.specs.declared.form.Form.{Form}
use Rattle.zone.specs.Part as part
use Rattle.zone.specs.Form.{start, field}
use Rattle.zone.specs.Record.{trimmed_length}
use Rattle.text.specs.Read.{read_text}
use Rattle.tlv.specs.declared.Stretch.{Stretch}
use Rattle.tlv.specs.Read.{Read, value, refusal}
use Rattle.tlv.specs.Cut.{cut}
use Rattle.details.specs.Tags.{full_name_tag}
use Rattle.details.specs.Details.{read_detail}
use Rattle.full_name.specs.declared.From.{From}
use Rattle.full_name.specs.declared.From.TheVariants.{Nowhere, File, Text}
use Rattle.full_name.specs.declared.Name.{Name}

-- "an empty stretch"
abbrev pub nothing : Stretch
nothing = record { from = 0; to = 0 }

unfoldable pub is_empty : Stretch → Bool
is_empty v = leb v.to v.from

-- "5F0E if the file reads"
unfoldable pub value_in : Read Stretch → Stretch
value_in (value v) = v
value_in (refusal n p) = nothing

unfoldable pub in_file : List ℕ → Stretch
in_file file = value_in (read_detail file full_name_tag)

-- where the first n characters of a name stand
unfoldable pub name_at : Form → (n : ℕ) → Stretch
name_at f n = record { from = start f part.name; to = start f part.name + n }

-- "if the text is accepted, its name without trailing fillers", "otherwise an empty stretch"
unfoldable pub name_by : Outcome → Form → List ℕ → Name
name_by passed f text = record { from = Text; stretch = name_at f (trimmed_length (field f part.name text)) }
name_by (refused n p) f text = record { from = Nowhere; stretch = nothing }

unfoldable pub in_text : List ℕ → Name
in_text text = name_by (read_text Alone text).outcome (read_text Alone text).kept.form text

-- "5F0E if the file reads and it is not empty, otherwise" the text's
unfoldable pub full_name : (file text : List ℕ) → Name
full_name file text = cond (is_empty (in_file file)) (in_text text) (record { from = File; stretch = in_file file })

-- the octets of a name
unfoldable pub part_of : Name → (file text : List ℕ) → List ℕ
part_of n file text = go n.from
  where
    go : From → List ℕ
    go Nowhere = []
    go File = cut file n.stretch
    go Text = cut text n.stretch

unfoldable pub full_name_part : (file text : List ℕ) → List ℕ
full_name_part file text = part_of (full_name file text) file text

-- When the file holds the full name, without its reader: document 02, request 2026-01, whose words are those
-- in quotes. When a text is accepted is said without its reader in text_theorems.
use Rattle.std.specs.Prelude.{ℕ, ◌<◌, ◌≡◌, List, ◌∷◌, ◌++◌, length}
use Rattle.details.specs.Tags.{full_name_tag}
use Rattle.detail_theorems.specs.Named.{Named, Right, group_octets}

-- "5F0E if the file reads and it is not empty"
pub record HeldInFile (file name : List ℕ) : Type 0 where
  pub before : List Named
  pub behind : List Named
  pub right : Right (before ++ (record { tag = full_name_tag; content = name } ∷ behind))
  pub octets : file ≡ group_octets (before ++ (record { tag = full_name_tag; content = name } ∷ behind))
  pub some_name : 0 < length name

-- Exactly one entry, of a house and a sound record: document 01, "What the server lends and gets": "the text writer is given
-- exactly one entry".
use Rattle.std.specs.Prelude.{ℕ, ◌≡◌, true, List}
use Rattle.entry.specs.Entry.{entry_of}
use Rattle.run_theorems.specs.Runs.{Line, is_kept}

abbrev pub OneEntry : List ℕ → Type 0
OneEntry e = (l : Line) × (is_kept l ≡ true) × (e ≡ entry_of l.house l.kept)

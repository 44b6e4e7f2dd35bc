-- Which lists are accepted and where one is refused, said without the reader. The words in quotes are those of document 02,
-- request 2026-14.
use Rattle.std.specs.Prelude.{ℕ, ◌≡◌, Bool, true, false, ◌&&◌, List, [], ◌∷◌, ◌++◌, length}
use Rattle.refusal.specs.Numbers.{Why, by}
use Rattle.entry.specs.Entry.{entry_of}
use Rattle.nightly.specs.Key.{is_below}
use Rattle.run_theorems.specs.Keys.{key_of}
use Rattle.run_theorems.specs.Runs.{Line, is_kept, all_kept, joined, NoEntry}

-- the octets of a line, and the thirty of its key
abbrev pub octets_of : Line → List ℕ
octets_of l = entry_of l.house l.kept

abbrev pub key_in : Line → List ℕ
key_in l = key_of l.house l.kept

-- "each key is below the next"
unfoldable pub rises : List Line → Bool
rises [] = true
rises (l ∷ []) = true
rises (l ∷ (m ∷ ls)) = is_below (key_in l) (key_in m) && rises (m ∷ ls)

-- houses and sound records, in the order of their keys
pub record InOrder (ls : List Line) : Type 0 where
  pub kept : all_kept ls ≡ true
  pub rising : rises ls ≡ true

-- a refusal, with all that stands before it: "per entry from the left, 18, then 23 (order)"
pub data Fails (w : List ℕ) : Why → ℕ → Type 0 where
  -- "18", not an entry: behind entries in their order something stands, and it begins with no entry
  no_entry_lem : (ls : List Line) (rest : List ℕ) → InOrder ls → w ≡ joined ls ++ rest → (rest ≡ [] → ⊥) → NoEntry rest
      → Fails w (by 18) (length (joined ls))
  -- "23 (order) at the entry whose key is not above the one before": with it the keys no longer rise
  not_above : (ls : List Line) (l : Line) (rest : List ℕ) → InOrder ls → w ≡ joined ls ++ (octets_of l ++ rest) → is_kept l ≡ true
      → rises (ls ++ (l ∷ [])) ≡ false → Fails w (by 23) (length (joined ls))

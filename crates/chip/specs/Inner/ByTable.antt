-- No words of the paper: stage 5 as the code goes about it, with a table of where the digest of each group begins. A group's
-- place is 0 where it has no entry, and from its first file on, so that one test tells both a group without entry and one lent
-- before.
use Rattle.outer.specs.declared.File.{File}
use Rattle.std.specs.Prelude.{ℕ, ◌&&◌, List, [], ◌∷◌, ltb, take, drop, get_or, set}
use Rattle.refusal.specs.Outcome.{Outcome, passed, unless, or_else}
use Rattle.sha256.specs.Hash.{sha256}
use Rattle.tlv.specs.Read.{Read, value, refusal}
use Rattle.lent.specs.Octets.{alike, stands}
use Rattle.tlv.specs.Tags.{group_of}
use Rattle.outer.specs.Outer.{files}
use Rattle.chip.specs.Files.{file_octets}

-- the files that were walked
unfoldable pub files_in : Read (List File) → List File
files_in (value fs) = fs
files_in (refusal n p) = []

-- the files from a place on
abbrev pub lent_from : List ℕ → ℕ → List File
lent_from w at = files_in (files w at)

unfoldable pub file_by : List ℕ → List ℕ → File → (tag place : ℕ) → Outcome
file_by w tags f tag place =
    or_else (unless (stands tag tags && ltb 0 place) 14 f.start)
    (unless (alike (sha256 (file_octets w f)) (take 32 (drop place w))) 15 f.start)

unfoldable pub files_by : List ℕ → List ℕ → List ℕ → List File → Outcome
files_by w tags table [] = passed
files_by w tags table (f ∷ fs) =
    or_else (file_by w tags f (get_or w f.start 0) (get_or table (group_of (get_or w f.start 0)) 0))
    (files_by w tags (set table (group_of (get_or w f.start 0)) 0) fs)

-- Stage 5, per group file, in lent order: 14, then 15. The digest is over the whole file, tag and length included.
use Rattle.outer.specs.declared.File.{File}
use Rattle.std.specs.Prelude.{ℕ, Bool, not, ◌&&◌, List, [], ◌∷◌, ltb, take, drop, get_or}
use Rattle.refusal.specs.Outcome.{Outcome, passed, unless, or_else}
use Rattle.sha256.specs.Hash.{sha256}
use Rattle.tlv.specs.Cut.{cut}
use Rattle.lent.specs.Octets.{alike, stands}
use Rattle.tlv.specs.Tags.{group_of}
use Rattle.object.specs.Object.{GroupHash, digest_for}

-- the octets of a file
unfoldable pub file_octets : List ℕ → File → List ℕ
file_octets w f = cut w (record { from = f.start; to = f.held.to })

-- 14: a group unlisted, lent before, or without entry
unfoldable pub is_expected : List ℕ → List ℕ → List GroupHash → ℕ → Bool
is_expected tags before es tag = stands tag tags && (not (stands tag before) && ltb 0 (digest_for (group_of tag) es))

-- 15: the digest differs
unfoldable pub is_digested : List ℕ → List GroupHash → File → ℕ → Bool
is_digested w es f tag = alike (sha256 (file_octets w f)) (take 32 (drop (digest_for (group_of tag) es) w))

unfoldable pub file_check : List ℕ → List ℕ → List ℕ → List GroupHash → File → ℕ → Outcome
file_check w tags before es f tag = or_else (unless (is_expected tags before es tag) 14 f.start)
    (unless (is_digested w es f tag) 15 f.start)

-- before: the tags of the files that were lent before
unfoldable pub files_check : List ℕ → List ℕ → List ℕ → List GroupHash → List File → Outcome
files_check w tags before es [] = passed
files_check w tags before es (f ∷ fs) =
    or_else (file_check w tags before es f (get_or w f.start 0)) (files_check w tags (get_or w f.start 0 ∷ before) es fs)

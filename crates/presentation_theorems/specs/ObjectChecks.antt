-- Stage 4, the checks of the security object one after the other: document 01, "Stages of a presentation", and document 02,
-- 2026-04, whose words are those in quotes. 12 stands "at the bad element", and of each element the "encoding before its
-- content". s: the bytes up to the end of what holds the element. No row has "more than 16": the rows before it leave none to
-- refuse (`sixteen_entries`; document 02, 2026-09).
use Rattle.std.specs.Prelude.{ℕ, Bool, cond, not, ◌&&◌, ◌||◌, List, [], ◌∷◌, ◌++◌, map, eqb, leb, length, take, get_or}
use Rattle.refusal.specs.Outcome.{Outcome, unless}
use Rattle.lent.specs.Octets.{stands}
use Rattle.tlv.specs.declared.Stretch.{Stretch}
use Rattle.tlv.specs.Cut.{cut, has_octets, end_check}
use Rattle.tlv.specs.Tags as Tag
use Rattle.object.specs.declared.strings.Version.{Version}
use Rattle.object.specs.declared.strings.Version.TheVariants.{Zero, One}
use Rattle.object.specs.Object.{GroupHash, is_sha256}
use Rattle.tlv.specs.Places.{stretch_at, places}
use Rattle.row_theorems.specs.Standing.{coded, each}

-- "version integer 0", or 1: one octet, "12 for an object version other than 0 or 1"
unfoldable pub version_checks : List ℕ → ℕ → List Outcome
version_checks s at =
    let v = stretch_at s at Tag.integer in
    let n = get_or s v.from 0 in
    coded s at Tag.integer ∷ unless (has_octets 1 v) 12 at ∷ unless (eqb n 0 || eqb n 1) 12 at ∷ []

-- whether it is 1
unfoldable pub is_one : List ℕ → ℕ → Bool
is_one s at = eqb (get_or s (stretch_at s at Tag.integer).from 0) 1

-- where the algorithm stands
unfoldable pub algorithm_place : List ℕ → ℕ → ℕ
algorithm_place s at = (stretch_at s at Tag.integer).to

-- "AlgorithmIdentifier of SHA-256 (its inside is compared and not walked [..]), else 13"
unfoldable pub algorithm_checks : List ℕ → ℕ → List Outcome
algorithm_checks s at =
    coded s at Tag.sequence ∷ unless (is_sha256 (cut s (stretch_at s at Tag.sequence))) 13 at ∷ []

-- where the list of entries stands
unfoldable pub entries_place : List ℕ → ℕ → ℕ
entries_place s at = (stretch_at s (algorithm_place s at) Tag.sequence).to

-- the bytes up to the end of the sequence at a place
unfoldable pub sequence_bytes : List ℕ → ℕ → List ℕ
sequence_bytes s at = take (stretch_at s at Tag.sequence).to s

-- of the entry at a place: where its integer stands, the integer's value, the octet string's
unfoldable pub number_place : List ℕ → ℕ → ℕ
number_place s at = (stretch_at s at Tag.sequence).from

unfoldable pub number_stretch : List ℕ → ℕ → Stretch
number_stretch s at = stretch_at (sequence_bytes s at) (number_place s at) Tag.integer

unfoldable pub digest_stretch : List ℕ → ℕ → Stretch
digest_stretch s at = stretch_at (sequence_bytes s at) (number_stretch s at).to Tag.octet_string

unfoldable pub group_hash : List ℕ → ℕ → GroupHash
group_hash s at = record {
  group = get_or (sequence_bytes s at) (number_stretch s at).from 0;
  place = number_place s at;
  digest = (digest_stretch s at).from;
  end = (digest_stretch s at).to;
}

-- "each itself a sequence of a one-octet integer 1-16 and an octet string of 32, else 12 at the bad element"
unfoldable pub entry_checks : List ℕ → ℕ → List Outcome
entry_checks s at =
    let e = sequence_bytes s at in
    let n = (group_hash s at).group in
    coded s at Tag.sequence
    ∷ coded e (number_place s at) Tag.integer
    ∷ unless (has_octets 1 (number_stretch s at)) 12 (number_place s at)
    ∷ unless (leb 1 n && leb n 16) 12 (number_place s at)
    ∷ coded e (number_stretch s at).to Tag.octet_string
    ∷ unless (has_octets 32 (digest_stretch s at)) 12 (number_stretch s at).to
    ∷ end_check e (digest_stretch s at).to
    ∷ []

-- the places of entries from a place on, to the end of what holds them
unfoldable pub entry_places : List ℕ → ℕ → List ℕ
entry_places s at = places (λ p. (stretch_at s p Tag.sequence).to) (length s) at

-- "After all entries: a repeated number (12 at its integer)": a row for each, where before are the numbers that stood before it
unfoldable pub repeated_checks : List ℕ → List GroupHash → List Outcome
repeated_checks before [] = []
repeated_checks before (e ∷ es) = unless (not (stands e.group before)) 12 e.place ∷ repeated_checks (e.group ∷ before) es

-- of the list at a place: where its entries stand, and they
unfoldable pub places_in : List ℕ → ℕ → List ℕ
places_in s at = entry_places (sequence_bytes s at) (stretch_at s at Tag.sequence).from

unfoldable pub entries_in : List ℕ → ℕ → List GroupHash
entries_in s at = map (group_hash (sequence_bytes s at)) (places_in s at)

-- of the sequence at a place: where its two strings' values stand
unfoldable pub lds_stretch : List ℕ → ℕ → Stretch
lds_stretch s at = stretch_at (sequence_bytes s at) (stretch_at s at Tag.sequence).from Tag.printable_string

unfoldable pub unicode_stretch : List ℕ → ℕ → Stretch
unicode_stretch s at = stretch_at (sequence_bytes s at) (lds_stretch s at).to Tag.printable_string

-- "a sequence of two printable strings": each where it should stand, nothing left over in it, and nothing behind it
unfoldable pub strings_checks : List ℕ → ℕ → List Outcome
strings_checks s at =
    let v = stretch_at s at Tag.sequence in
    let l = sequence_bytes s at in
    coded s at Tag.sequence
    ∷ coded l v.from Tag.printable_string
    ∷ coded l (lds_stretch s at).to Tag.printable_string
    ∷ end_check l (unicode_stretch s at).to
    ∷ end_check s v.to
    ∷ []

-- "Their security object has version 1 and ends with" it; "version 0 has no such sequence (else 10)": "Nothing follows."
unfoldable pub behind_checks : (newer : Bool) → List ℕ → ℕ → List Outcome
behind_checks newer s at = cond newer (strings_checks s at) (end_check s at ∷ [])

-- the version, with where its strings stand
unfoldable pub version_behind : (newer : Bool) → List ℕ → ℕ → Version
version_behind newer s at = cond newer (One (record { lds = lds_stretch s at; unicode = unicode_stretch s at })) Zero

-- "a sequence of entries [..]. After all entries: a repeated number, then fewer than 2 [..] (12 at the list)."; then what stands
-- behind them
unfoldable pub entry_list_checks : (newer : Bool) → List ℕ → ℕ → List Outcome
entry_list_checks newer s at =
    coded s at Tag.sequence
    ∷ (each (entry_checks (sequence_bytes s at)) (places_in s at)
    ++ (repeated_checks [] (entries_in s at)
    ++ (unless (leb 2 (length (entries_in s at))) 12 at ∷ behind_checks newer s (stretch_at s at Tag.sequence).to)))

-- the object's version, with where its strings stand
unfoldable pub version_of : List ℕ → ℕ → Version
version_of s at = version_behind (is_one s at) s (stretch_at s (entries_place s at) Tag.sequence).to

-- "In stages 3 and 4 elements go left to right"
unfoldable pub object_checks : List ℕ → ℕ → List Outcome
object_checks s at =
    version_checks s at
    ++ (algorithm_checks s (algorithm_place s at) ++ entry_list_checks (is_one s at) s (entries_place s at))

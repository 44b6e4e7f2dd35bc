-- Stage 4, the security object (source document 000, 5.2; DER): version integer 0 or (document 02, 2026-04) 1;
-- AlgorithmIdentifier of SHA-256, else 13; a sequence of entries, else 12 at the bad element; of version 1 a sequence of two
-- strings.
use Rattle.std.specs.Prelude.{ℕ, zero, suc, Bool, true, false, cond, ◌&&◌, ◌||◌}
use Rattle.std.specs.Prelude.{List, [], ◌∷◌, ◌++◌, eqb, leb, length, take, get_or}
use Rattle.refusal.specs.Numbers.{by}
use Rattle.refusal.specs.Outcome.{Outcome, passed, refused, unless, or_else}
use Rattle.tlv.specs.declared.Stretch.{Stretch}
use Rattle.tlv.specs.Read.{Read, value, refusal, and_then, checked}
use Rattle.tlv.specs.Element.{element}
use Rattle.tlv.specs.Cut.{cut, has_octets, end_check}
use Rattle.tlv.specs.Tags as Tag
use Rattle.tlv.specs.Versions.{Known, former, both}
use Rattle.lent.specs.Octets.{alike, stands}
use Rattle.object.specs.declared.entries.GroupHash as entry
use Rattle.object.specs.declared.strings.Strings.{Strings}
use Rattle.object.specs.declared.strings.Version.{Version}
use Rattle.object.specs.declared.strings.Version.TheVariants.{Zero, One}

-- an entry: its group's number, where its integer stands, and where its digest begins and it ends
abbrev pub GroupHash : Type 0
GroupHash = entry.GroupHash

-- a one-octet integer 1-16
unfoldable pub is_group_number : List ℕ → Stretch → Bool
is_group_number s v = has_octets 1 v && (leb 1 (get_or s v.from 0) && leb (get_or s v.from 0) 16)

-- an octet string of 32, and nothing behind it
unfoldable pub digest_at : List ℕ → (group place at : ℕ) → Read GroupHash
digest_at s group place at =
    and_then (element s at Tag.octet_string) (λ v.
    checked (unless (has_octets 32 v) 12 at)
    (checked (end_check s v.to) (value (record { group = group; place = place; digest = v.from; end = v.to }))))

unfoldable pub number_at : List ℕ → ℕ → Read GroupHash
number_at s at = and_then (element s at Tag.integer)
    (λ v. checked (unless (is_group_number s v) 12 at) (digest_at s (get_or s v.from 0) at v.to))

-- each itself a sequence of these
unfoldable pub entry_at : List ℕ → ℕ → Read GroupHash
entry_at s at = and_then (element s at Tag.sequence) (λ v. number_at (take v.to s) v.from)

-- entries to the end of what holds them; here at most so many steps, of which the last finds the end
unfoldable pub entries_from : ℕ → List ℕ → ℕ → Read (List GroupHash)
entries_from zero s at = refusal (by 10) at
entries_from (suc more) s at =
    cond (leb (length s) at) (value [])
    (and_then (entry_at s at) (λ e. and_then (entries_from more s e.end) (λ rest. value (e ∷ rest))))

-- no entry is empty, so that there are no more of them than octets
unfoldable pub entries : List ℕ → ℕ → Read (List GroupHash)
entries s at = entries_from (suc (length s)) s at

-- after all entries: a repeated number (12 at its integer)
unfoldable pub numbers_once : List ℕ → List GroupHash → Outcome
numbers_once before [] = passed
numbers_once before (e ∷ es) = cond (stands e.group before) (refused (by 12) e.place) (numbers_once (e.group ∷ before) es)

-- then fewer than 2 (12 at the list); more than 16 are never left to refuse (`sixteen_entries`)
unfoldable pub entries_check : List GroupHash → ℕ → Outcome
entries_check es at = or_else (numbers_once [] es) (unless (leb 2 (length es)) 12 at)

-- two printable strings, LDS version and Unicode version, and nothing behind them
unfoldable pub strings_at : List ℕ → ℕ → Read Strings
strings_at s at =
    and_then (element s at Tag.printable_string) (λ lds.
    and_then (element s lds.to Tag.printable_string) (λ unicode.
    checked (end_check s unicode.to) (value (record { lds = lds; unicode = unicode }))))

-- a sequence of them, and nothing follows
unfoldable pub sequence_at : List ℕ → ℕ → Read Strings
sequence_at s at =
    and_then (element s at Tag.sequence) (λ v.
    and_then (strings_at (take v.to s) v.from) (λ t. checked (end_check s v.to) (value t)))

-- version 1 "ends with a sequence of two printable strings"; "version 0 has no such sequence": nothing follows
unfoldable pub version_at : (newer : Bool) → List ℕ → ℕ → Read Version
version_at false s at = checked (end_check s at) (value Zero)
version_at true s at = and_then (sequence_at s at) (λ t. value (One t))

-- what an object says: its entries, and its version with the strings
pub record Said : Type 0 where
  pub entries : List GroupHash
  pub version : Version

unfoldable pub from_entry_list : (newer : Bool) → List ℕ → ℕ → Read Said
from_entry_list newer s at =
    and_then (element s at Tag.sequence) (λ v.
    and_then (entries (take v.to s) v.from) (λ es.
    checked (entries_check es at) (and_then (version_at newer s v.to) (λ x. value (record { entries = es; version = x })))))

-- its inside is compared and not walked: exactly 06 09 60 86 48 01 65 03 04 02 01, alone or followed by 05 00
unfoldable pub sha256_name : List ℕ
sha256_name = 0x06 ∷ 0x09 ∷ 0x60 ∷ 0x86 ∷ 0x48 ∷ 0x01 ∷ 0x65 ∷ 0x03 ∷ 0x04 ∷ 0x02 ∷ 0x01 ∷ []

unfoldable pub is_sha256 : List ℕ → Bool
is_sha256 s = alike s sha256_name || alike s (sha256_name ++ (0x05 ∷ 0x00 ∷ []))

unfoldable pub from_algorithm : (newer : Bool) → List ℕ → ℕ → Read Said
from_algorithm newer s at = and_then (element s at Tag.sequence)
    (λ v. checked (unless (is_sha256 (cut s v)) 13 at) (from_entry_list newer s v.to))

-- version integer 0, and where it is known 1
unfoldable pub is_version : Known → List ℕ → Stretch → Bool
is_version former s v = has_octets 1 v && eqb (get_or s v.from 0) 0
is_version both s v = has_octets 1 v && (eqb (get_or s v.from 0) 0 || eqb (get_or s v.from 0) 1)

unfoldable pub from_version : Known → List ℕ → ℕ → Read Said
from_version known s at =
    and_then (element s at Tag.integer) (λ v.
    checked (unless (is_version known s v) 12 at) (from_algorithm (eqb (get_or s v.from 0) 1) s v.to))

-- the security object whose value stands here
unfoldable pub read_object : Known → List ℕ → Stretch → Read Said
read_object known w o = from_version known (take o.to w) o.from

-- where the digest of a group begins, 0 where it has no entry
unfoldable pub digest_for : ℕ → List GroupHash → ℕ
digest_for group [] = 0
digest_for group (e ∷ es) = cond (eqb e.group group) e.digest (digest_for group es)

-- Demand 2 for a presentation: what it is to be the joined encodings of an EF.COM, a security object and group files that belong
-- together, said with encoders and without the reader. The words in quotes are those of document 01, "Stages of a presentation",
-- and of document 02, 2026-04.
use Rattle.std.specs.Prelude.{ℕ, ◌≤◌, ◌≡◌, ◌⊎◌, Bool, true, false, cond, not, ◌&&◌, List, [], ◌∷◌, ◌++◌, length, replicate}
use Rattle.zone.specs.declared.form.Source.TheVariants.{GroupOne}
use Rattle.zone.specs.Form.{may_stand}
use Rattle.zone.specs.declared.form.Form.{Form}
use Rattle.zone.specs.Alphabet.{is_digit, every}
use Rattle.sha256.specs.Hash.{sha256}
use Rattle.tlv.specs.Element.{tlv}
use Rattle.tlv.specs.Tags.{group_of, is_group}
use Rattle.tlv.specs.Tags as Tag
use Rattle.tlv.specs.Versions.{lds17, lds18}
use Rattle.lent.specs.Octets.{stands}
use Rattle.object.specs.Object.{sha256_name}
use Rattle.text_theorems.specs.Accepted.{Keeps}

-- ---- what a presentation holds

-- an entry of the security object: "a sequence of a one-octet integer 1-16 and an octet string of 32"
pub record Signed : Type 0 where
  pub number : ℕ
  pub digest : List ℕ

-- a group file: its tag, and what it holds
pub record Lent : Type 0 where
  pub tag : ℕ
  pub content : List ℕ

-- all of it
pub record Contents : Type 0 where
  -- whether "`0108` with version 1", or "`0107` [..] with object version 0"
  pub newer : Bool
  -- "5C, the tag list"
  pub tags : List ℕ
  -- "5F36 of length 6, six digits"
  pub digits : List ℕ
  -- the algorithm's name "alone or followed by 05 00"
  pub followed : Bool
  -- "a sequence of entries"
  pub entries : List Signed
  -- "then group files, joined"
  pub lent : List Lent
  -- "5F1F and the text, exactly filling 61"
  pub text : List ℕ

-- ---- its bytes

-- `0108` or `0107`
unfoldable pub lds_of : (newer : Bool) → List ℕ
lds_of newer = cond newer lds18 lds17

-- "5F01 of length 4, `0107`; 5F36 of length 6, six digits; 5C, the tag list"
unfoldable pub common_inside : (newer : Bool) → (digits tags : List ℕ) → List ℕ
common_inside newer digits tags = tlv Tag.lds_version (lds_of newer) ++ (tlv Tag.unicode_version digits ++ tlv Tag.tag_list tags)

-- EF.COM, "tag 60"
unfoldable pub common_of : Contents → List ℕ
common_of p = tlv Tag.ef_com (common_inside p.newer p.digits p.tags)

-- "each itself a sequence of a one-octet integer 1-16 and an octet string of 32"
unfoldable pub signed_of : Signed → List ℕ
signed_of e = tlv Tag.sequence (tlv Tag.integer (e.number ∷ []) ++ tlv Tag.octet_string e.digest)

-- "a sequence of entries", joined
unfoldable pub all_signed : List Signed → List ℕ
all_signed [] = []
all_signed (e ∷ es) = signed_of e ++ all_signed es

-- "exactly 06 09 60 86 48 01 65 03 04 02 01, alone or followed by 05 00"
unfoldable pub algorithm_of : Bool → List ℕ
algorithm_of followed = cond followed (sha256_name ++ (0x05 ∷ 0x00 ∷ [])) sha256_name

-- version 1 "ends with a sequence of two printable strings, LDS version and Unicode version"; "version 0 has no such sequence"
unfoldable pub strings_of : (newer : Bool) → (lds unicode : List ℕ) → List ℕ
strings_of newer lds unicode =
    cond newer (tlv Tag.sequence (tlv Tag.printable_string lds ++ tlv Tag.printable_string unicode)) []

-- "version integer 0", or 1; "AlgorithmIdentifier of SHA-256; a sequence of entries"; of version 1 the strings
unfoldable pub object_inside : (newer followed : Bool) → List Signed → (lds unicode : List ℕ) → List ℕ
object_inside newer followed entries lds unicode =
    tlv Tag.integer (cond newer 0x01 0x00 ∷ [])
    ++ (tlv Tag.sequence (algorithm_of followed) ++ (tlv Tag.sequence (all_signed entries) ++ strings_of newer lds unicode))

-- the content of the security object, "tag 30"; its strings are "equal to EF.COM's"
unfoldable pub object_of : Contents → List ℕ
object_of p = tlv Tag.sequence (object_inside p.newer p.followed p.entries (lds_of p.newer) p.digits)

-- a whole file, "tag and length included"
unfoldable pub file_of : Lent → List ℕ
file_of f = tlv f.tag f.content

-- "group files, joined"
unfoldable pub all_lent : List Lent → List ℕ
all_lent [] = []
all_lent (f ∷ fs) = file_of f ++ all_lent fs

-- "The bytes are EF.COM, the content of the security object, then group files, joined."
unfoldable pub octets_of : Contents → List ℕ
octets_of p = common_of p ++ (object_of p ++ all_lent p.lent)

-- ---- what belongs together

-- to be one of those on a list
unfoldable pub IsIn : {A : Type 0} → A → List A → Type 0
IsIn x [] = ⊥
IsIn x (y ∷ ys) = (x ≡ y) ⊎ IsIn x ys

-- none stands twice
unfoldable pub is_once : List ℕ → Bool
is_once [] = true
is_once (c ∷ t) = not (stands c t) && is_once t

-- the numbers of entries, of which none is "a repeated number"
unfoldable pub numbers : List Signed → List ℕ
numbers [] = []
numbers (e ∷ es) = e.number ∷ numbers es

-- the tags of files, of which none is "lent before"
unfoldable pub tags_of : List Lent → List ℕ
tags_of [] = []
tags_of (f ∷ fs) = f.tag ∷ tags_of fs

-- "a one-octet integer 1-16 and an octet string of 32"
pub record EntryKept (e : Signed) : Type 0 where
  pub number_least : 1 ≤ e.number
  pub number_most : e.number ≤ 16
  pub digest_octets : length e.digest ≡ 32

-- a lent file: not "unlisted" nor "without entry", and "the digest is over the whole file, tag and length included"
pub record FileKept (tags : List ℕ) (entries : List Signed) (f : Lent) : Type 0 where
  pub of_group : is_group f.tag ≡ true
  pub listed : stands f.tag tags ≡ true
  pub signed : IsIn (record { number = group_of f.tag; digest = sha256 (file_of f) }) entries

-- every stage
pub record Presented (p : Contents) : Type 0 where
  -- not "over 65,535"
  pub size : length (octets_of p) ≤ 65535
  -- "six digits"
  pub digits_six : length p.digits ≡ 6
  pub digits_only : every is_digit p.digits ≡ true
  -- in the list not "an unknown tag", nor "a repeated one"
  pub tags_known : every is_group p.tags ≡ true
  pub tags_once : is_once p.tags ≡ true
  -- of the entries not "a repeated number", nor "fewer than 2"
  pub entry_kept : (e : Signed) → IsIn e p.entries → EntryKept e
  pub numbers_once : is_once (numbers p.entries) ≡ true
  pub entries_least : 2 ≤ length p.entries
  -- "Per group file", and none "lent before"
  pub file_kept : (f : Lent) → IsIn f p.lent → FileKept p.tags p.entries f
  pub lent_once : is_once (tags_of p.lent) ≡ true
  -- "Inside group 1: 5F1F and the text, exactly filling 61", and the text keeps every rule
  pub group_one : IsIn (record { tag = Tag.group1; content = tlv Tag.text p.text }) p.lent
  pub text_kept : (f : Form) × (may_stand GroupOne f ≡ true) × Keeps f p.text

-- ---- the file of a group

-- stages 1 and 2 alone: not "over 65,535"; "tag 60, tag 30, then group tags only, every file ending within the bytes"
pub record Outside (w c d : List ℕ) (fs : List Lent) : Type 0 where
  pub outside_size : length w ≤ 65535
  pub outside_octets : w ≡ tlv Tag.ef_com c ++ (tlv Tag.sequence d ++ all_lent fs)
  pub outside_groups : (f : Lent) → IsIn f fs → is_group f.tag ≡ true

-- no file of that group
unfoldable pub NoFile : ℕ → List Lent → Type 0
NoFile group fs = (f : Lent) → IsIn f fs → group_of f.tag ≡ group → ⊥

-- "the first file with that group's tag", what is lent before it, and what behind
pub record FirstFile (group : ℕ) (fs before : List Lent) (f : Lent) (after : List Lent) : Type 0 where
  pub lent_so : fs ≡ before ++ (f ∷ after)
  pub none_before : NoFile group before
  pub its_group : group_of f.tag ≡ group

-- where a file stands: behind EF.COM, the object and the files before it
unfoldable pub place_of : (c d : List ℕ) → List Lent → ℕ
place_of c d before = length (tlv Tag.ef_com c ++ (tlv Tag.sequence d ++ all_lent before))

-- ---- a presentation of a text

-- the least that carries a text, of either version: group 1 alone, listed and signed, and a second entry, since "fewer than 2"
-- are refused
unfoldable pub around : (newer : Bool) → List ℕ → Contents
around newer t =
    let one : Lent = record { tag = Tag.group1; content = tlv Tag.text t } in
    record {
      newer = newer;
      tags = Tag.group1 ∷ [];
      digits = 0x30 ∷ 0x34 ∷ 0x30 ∷ 0x30 ∷ 0x30 ∷ 0x30 ∷ [];
      followed = false;
      entries = record { number = 1; digest = sha256 (file_of one) } ∷ (record { number = 2; digest = replicate 32 0 } ∷ []);
      lent = one ∷ [];
      text = t;
    }

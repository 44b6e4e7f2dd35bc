-- DEMAND 2, stage 4 as a whole: a security object is read exactly when its inside is the encoding of version 0 or 1, SHA-256, a
-- list of kept entries and, in version 1, two strings.
use Prim.Native.Nat.{ℕ, ◌≤◌}
use mathlib.Core.Path.{◌≡◌, refl, ap, sym, ◌∙◌, subst}
use mathlib.Core.Bool.{Bool, true, false, cond, ◌||◌, false≢true}
use mathlib.Core.List.{List, [], ◌∷◌, ◌++◌}
use mathlib.Core.Logic.{◌⊎◌, inl, inr}
use borrow.Author.Tests.{eqb-true}
use lib.Dec.{eqb}
use lib.ListN.{length, take, drop, get_or}
use lib.Seq.{length-take-le}
use Rattle.lent.proofs.Bools.{and_both, both_and, or_either}
use Rattle.refusal.specs.Outcome.{unless}
use Rattle.tlv.specs.declared.Stretch.{Stretch}
use Rattle.tlv.specs.Read.{Read, value, checked}
use Rattle.tlv.specs.Element.{tlv, element}
use Rattle.tlv.proofs.Encoded.{Stands, inside}
use Rattle.tlv.specs.Cut.{cut, has_octets}
use Rattle.lent.specs.Octets.{alike}
use Rattle.tlv.specs.Versions.{both}
use Rattle.object.specs.Object.{Said, from_entry_list, sha256_name, is_sha256}
use Rattle.object.specs.Object.{from_algorithm, is_version, from_version, read_object}
use Rattle.zone.specs.Octets.{AreOctets}
use Rattle.presentation_theorems.specs.Presented.{Signed, all_signed, algorithm_of, strings_of, object_inside}
use Rattle.refusal.proofs.Outcomes.{unless_kept, kept_unless}
use Rattle.tlv.proofs.Joined.{first_value, value_then, checked_value, value_checked}
use Rattle.tlv.proofs.Standing.{element_read, cut_there, has_octets_lem, octets_had, one_octet, followed_by}
use Rattle.presentation_theorems.proofs.Elements.{octets_before, take_most, read_element, alike_same, same_alike}
use Rattle.presentation_theorems.proofs.ObjectEntry.{signed_in, held_in, signed_before, held_more}
use Rattle.presentation_theorems.proofs.ObjectEntries.{SignedKept, list_of_entries, entries_listed}
use Rattle.presentation_theorems.proofs.StringsBehind.{VersionIn, version_before, behind_read, read_behind}
use Rattle.lent.proofs.Lists.{head_same}

-- ---- the algorithm

named : (s : List ℕ) → is_sha256 s ≡ true → (followed : Bool) × (s ≡ algorithm_of followed)
unfolding is_sha256 algorithm_of
named s e = go (or_either (alike s sha256_name) (alike s (sha256_name ++ (5 ∷ 0 ∷ []))) e)
  where
    go : (alike s sha256_name ≡ true) ⊎ (alike s (sha256_name ++ (5 ∷ 0 ∷ [])) ≡ true)
        → (followed : Bool) × (s ≡ cond followed (sha256_name ++ (5 ∷ 0 ∷ [])) sha256_name)
    go (inl h) = (false, alike_same s sha256_name h)
    go (inr h) = (true, alike_same s (sha256_name ++ (5 ∷ 0 ∷ [])) h)

either_true : (b : Bool) → b || true ≡ true
either_true true = refl
either_true false = refl

names : (s : List ℕ) (followed : Bool) → s ≡ algorithm_of followed → is_sha256 s ≡ true
unfolding is_sha256 algorithm_of
names s true e = rw (same_alike s (sha256_name ++ (5 ∷ 0 ∷ [])) e) (either_true (alike s sha256_name))
names s false e = rw (same_alike s sha256_name e)

-- what stands from the list on, and from the algorithm on
unfoldable list_inside : Bool → List Signed → List ℕ → List ℕ → List ℕ
list_inside newer xs lds unicode = tlv 0x30 (all_signed xs) ++ strings_of newer lds unicode

unfoldable algorithm_inside : Bool → Bool → List Signed → List ℕ → List ℕ → List ℕ
algorithm_inside newer followed xs lds unicode = tlv 0x30 (algorithm_of followed) ++ list_inside newer xs lds unicode

-- what stands of an algorithm, entries and two strings
abbrev Inside : Type 0
Inside = Bool → List Signed → List ℕ → List ℕ → List ℕ

-- what is read from a place, where x stands
record ObjectRead (s : List ℕ) (at : ℕ) (newer : Bool) (x : Inside) (o : Said) : Type 0 where
  followed : Bool
  lds : List ℕ
  unicode : List ℕ
  object_there : drop at s ≡ x followed (signed_in s o.entries) lds unicode
  object_kept : SignedKept (signed_in s o.entries)
  object_held : held_in (length s) o.entries ≡ true
  object_version_lem : VersionIn s newer lds unicode o.version

-- what reads there, of these entries and strings
abbrev Reads : (s : List ℕ) (newer : Bool) (xs : List Signed) (lds unicode : List ℕ) → Read Said → Type 0
Reads s newer xs lds unicode m =
    (o : Said) × (m ≡ value o) × (signed_in s o.entries ≡ xs) × (held_in (length s) o.entries ≡ true)
    × VersionIn s newer lds unicode o.version

module _ (newer : Bool) (s : List ℕ) (at : ℕ) where
  abbrev then_list : Stretch → Read Said
  then_list u = checked (unless (is_sha256 (cut s u)) 13 at) (from_entry_list newer s u.to)

  algorithm_read : AreOctets s → (o : Said) → from_algorithm newer s at ≡ value o
      → ObjectRead s at newer (algorithm_inside newer) o
  unfolding from_algorithm algorithm_inside list_inside
  algorithm_read small o e =
      let a = first_value (element s at 0x30) then_list o e in
      let v = a.0 in
      let b = checked_value (unless (is_sha256 (cut s v)) 13 at) (from_entry_list newer s v.to) o a.2 in
      let n = named (cut s v) (unless_kept (is_sha256 (cut s v)) 13 at b.0) in
      let h = read_element s at 0x30 small v a.1 in
      let d = list_of_entries newer s v.to small o b.1 in
      let t = behind_read s d.behind small newer o.version d.version_read in
      let list = tlv 0x30 (all_signed (signed_in s o.entries)) in
      record {
        followed = n.0;
        lds = t.0;
        unicode = t.1;
        object_there = followed_by 0x30 (drop at s) (cut s v) (algorithm_of n.0) (drop v.to s)
            (list ++ strings_of newer t.0 t.1) h.octets_there n.1
            (d.list_there ∙ ap (λ (l : List ℕ). list ++ l) t.2);
        object_kept = d.list_kept;
        object_held = d.list_held;
        object_version_lem = t.3;
      }

  read_algorithm : length s ≤ 65535 → (followed : Bool) (xs : List Signed) (lds unicode : List ℕ)
      → drop at s ≡ algorithm_inside newer followed xs lds unicode → SignedKept xs
      → Reads s newer xs lds unicode (from_algorithm newer s at)
  unfolding from_algorithm algorithm_inside list_inside
  read_algorithm most followed xs lds unicode e k =
      let rest = tlv 0x30 (all_signed xs) ++ strings_of newer lds unicode in
      let a = element_read s at 0x30 most (algorithm_of followed) rest e in
      let v = a.0 in
      let there = cut_there s at 0x30 (algorithm_of followed) rest v a.2 in
      let b = entries_listed newer s v.to most xs (strings_of newer lds unicode) a.2.rest_there k
      (VersionIn s newer lds unicode) (λ behind within f. read_behind s behind most within newer lds unicode f) in (
        b.0,
        value_then (element s at 0x30) then_list v (value b.0) a.1
            (value_checked (unless (is_sha256 (cut s v)) 13 at) (from_entry_list newer s v.to) (value b.0)
            (kept_unless (is_sha256 (cut s v)) 13 at (names (cut s v) followed there)) b.1),
        b.2,
        b.3,
        b.4,
      )

-- ---- the version before it

-- an octet that is 0 or 1 is told by whether it is 1
told_octet : (n : ℕ) → eqb n 0 || eqb n 1 ≡ true → n ≡ cond (eqb n 1) 1 0
told_octet n e = go (eqb n 1) refl e
  where
    go : (b : Bool) → eqb n 1 ≡ b → eqb n 0 || b ≡ true → n ≡ cond b 1 0
    go true f h = eqb-true n 1 f
    go false f h = zero_there (eqb n 0) refl h
      where
        zero_there : (c : Bool) → eqb n 0 ≡ c → c || false ≡ true → n ≡ 0
        zero_there true g k = eqb-true n 0 g
        zero_there false g k = absurd (false≢true k)

octet_told : (newer : Bool) → (eqb (cond newer 1 0) 0 || eqb (cond newer 1 0) 1 ≡ true) × (eqb (cond newer 1 0) 1 ≡ newer)
octet_told true = (refl, refl)
octet_told false = (refl, refl)

module _ (s : List ℕ) (at : ℕ) where
  abbrev then_algorithm : Stretch → Read Said
  then_algorithm u = checked (unless (is_version both s u) 12 at) (from_algorithm (eqb (get_or s u.from 0) 1) s u.to)

  version_read : AreOctets s → (o : Said) → from_version both s at ≡ value o
      → (newer : Bool) × ObjectRead s at newer (object_inside newer) o
  unfolding from_version is_version object_inside algorithm_inside list_inside
  version_read small o e =
      let a = first_value (element s at 0x02) then_algorithm o e in
      let v = a.0 in
      let n = get_or s v.from 0 in
      let newer = eqb n 1 in
      let b = checked_value (unless (is_version both s v) 12 at) (from_algorithm newer s v.to) o a.2 in
      let c = and_both (has_octets 1 v) (eqb n 0 || eqb n 1) (unless_kept (is_version both s v) 12 at b.0) in
      let h = read_element s at 0x02 small v a.1 in
      let one : length (cut s v) ≡ 1 = has_octets_lem s at 2 (cut s v) (drop v.to s) v h 1 c.0 in
      let content : cut s v ≡ cond newer 1 0 ∷ [] = one_octet s at 2 (cut s v) (drop v.to s) v h one
      ∙ ap (λ (x : ℕ). x ∷ []) (told_octet n c.1) in
      let d = algorithm_read newer s v.to small o b.1 in (
        newer,
        record {
          followed = d.followed;
          lds = d.lds;
          unicode = d.unicode;
          object_there = followed_by 2 (drop at s) (cut s v) (cond newer 1 0 ∷ []) (drop v.to s)
              (algorithm_inside newer d.followed (signed_in s o.entries) d.lds d.unicode) h.octets_there content
              d.object_there;
          object_kept = d.object_kept;
          object_held = d.object_held;
          object_version_lem = d.object_version_lem;
        },
      )

  read_version : length s ≤ 65535 → (newer followed : Bool) (xs : List Signed) (lds unicode : List ℕ)
      → drop at s ≡ object_inside newer followed xs lds unicode → SignedKept xs
      → Reads s newer xs lds unicode (from_version both s at)
  unfolding from_version is_version object_inside algorithm_inside list_inside
  read_version most newer followed xs lds unicode e k =
      let rest = algorithm_inside newer followed xs lds unicode in
      let octet : ℕ = cond newer 1 0 in
      let a = element_read s at 0x02 most (octet ∷ []) rest e in
      let v = a.0 in
      let n = get_or s v.from 0 in
      let told : octet ≡ n = head_same octet n [] [] (one_octet s at 2 (octet ∷ []) rest v a.2 refl) in
      let b = read_algorithm newer s v.to most followed xs lds unicode a.2.rest_there k in
      let which : eqb n 1 ≡ newer = ap (λ (x : ℕ). eqb x 1) (sym told) ∙ (octet_told newer).1 in
      let known : eqb n 0 || eqb n 1 ≡ true = ap (λ (x : ℕ). eqb x 0 || eqb x 1) (sym told) ∙ (octet_told newer).0 in
      let test = both_and (octets_had s at 2 (octet ∷ []) rest v a.2 1 refl) known in (
        b.0,
        value_then (element s at 0x02) then_algorithm v (value b.0) a.1
            (value_checked (unless (is_version both s v) 12 at) (from_algorithm (eqb n 1) s v.to) (value b.0)
            (kept_unless (is_version both s v) 12 at test)
            (ap (λ (x : Bool). from_algorithm x s v.to) which ∙ b.1)),
        b.2,
        b.3,
        b.4,
      )

-- ---- the object, where its inside stands in a presentation

-- what is known of an object that was read
pub record ObjectIn (w c : List ℕ) (x : Said) : Type 0 where
  pub newer : Bool
  pub followed : Bool
  pub lds : List ℕ
  pub unicode : List ℕ
  pub inside_there : c ≡ object_inside newer followed (signed_in w x.entries) lds unicode
  pub entries_kept : SignedKept (signed_in w x.entries)
  pub entries_held : held_in (length w) x.entries ≡ true
  pub version_there : VersionIn w newer lds unicode x.version

module _ (w : List ℕ) (at tag : ℕ) (c rest : List ℕ) (o : Stretch) (h : Stands w at tag c rest o) where
  pub object_read : AreOctets w → (x : Said) → read_object both w o ≡ value x → ObjectIn w c x
  unfolding read_object
  object_read small x e =
      let s = take o.to w in
      let es = x.entries in
      let a = version_read s o.from (octets_before o.to w small) x e in
      let r = a.1 in
      let long : length s ≡ o.to = length-take-le o.to w h.ends_within_lem in
      let held : held_in o.to es ≡ true = ap (λ (n : ℕ). held_in n es) (sym long) ∙ r.object_held in
      let same : signed_in s es ≡ signed_in w es = signed_before w o.to es held in
      record {
        newer = a.0;
        followed = r.followed;
        lds = r.lds;
        unicode = r.unicode;
        inside_there = sym (inside w at tag c rest o h) ∙ r.object_there
            ∙ ap (λ (xs : List Signed). object_inside a.0 r.followed xs r.lds r.unicode) same;
        entries_kept = subst SignedKept same r.object_kept;
        entries_held = held_more o.to (length w) es h.ends_within_lem held;
        version_there = version_before w o.to a.0 r.lds r.unicode x.version h.ends_within_lem r.object_version_lem;
      }

  pub read_object_lem : length w ≤ 65535 → (newer followed : Bool) (xs : List Signed) (lds unicode : List ℕ)
      → c ≡ object_inside newer followed xs lds unicode → SignedKept xs → Reads w newer xs lds unicode (read_object both w o)
  unfolding read_object
  read_object_lem most newer followed xs lds unicode e k =
      let s = take o.to w in
      let r = read_version s o.from (take_most o.to 65535 w most) newer followed xs lds unicode
      (inside w at tag c rest o h ∙ e) k in
      let es = r.0.entries in
      let long : length s ≡ o.to = length-take-le o.to w h.ends_within_lem in
      let held : held_in o.to es ≡ true = ap (λ (n : ℕ). held_in n es) (sym long) ∙ r.3 in (
        r.0,
        r.1,
        sym (signed_before w o.to es held) ∙ r.2,
        held_more o.to (length w) es h.ends_within_lem held,
        version_before w o.to newer lds unicode r.0.version h.ends_within_lem r.4,
      )

-- DEMAND 2, stage 4, what stands behind the list of entries: nothing in version 0, and in version 1 exactly the encoding of two
-- printable strings in a sequence.
use Prim.Native.Nat.{ℕ, ◌≤◌}
use mathlib.Core.Path.{◌≡◌, refl, ap, sym, ◌∙◌, subst}
use mathlib.Core.Bool.{Bool, true, false}
use mathlib.Core.List.{List, [], ◌++◌, append-nil}
use lib.ListN.{length, take, drop}
use Rattle.tlv.specs.Read.{value}
use Rattle.tlv.specs.Element.{tlv, element}
use Rattle.tlv.specs.Cut.{cut, end_check}
use Rattle.tlv.proofs.Joined.{same_value, first_value, value_then, checked_value, value_checked}
use Rattle.tlv.proofs.Encoded.{inside}
use Rattle.tlv.proofs.Standing.{element_read, last_read, cut_there, place_behind}
use Rattle.object.specs.declared.strings.Strings.{Strings}
use Rattle.object.specs.declared.strings.Version.{Version}
use Rattle.object.specs.declared.strings.Version.TheVariants.{Zero, One}
use Rattle.object.specs.Object.{strings_at, sequence_at, version_at}
use Rattle.zone.specs.Octets.{AreOctets}
use Rattle.presentation_theorems.specs.Presented.{strings_of}
use Rattle.presentation_theorems.proofs.Elements.{octets_before, take_most, read_element, nothing_left, left_nothing}
use Rattle.presentation_theorems.proofs.Elements.{StringIn, string_before}

record BothIn (s : List ℕ) (t : Strings) (lds unicode : List ℕ) : Type 0 where
  lds_in : StringIn s t.lds lds
  unicode_in : StringIn s t.unicode unicode

-- what a version says of the strings: version 0 nothing, version 1 where they stand
unfoldable pub VersionIn : List ℕ → (newer : Bool) → (lds unicode : List ℕ) → Version → Type 0
VersionIn s newer lds unicode Zero = newer ≡ false
VersionIn s newer lds unicode (One t) = (newer ≡ true) × StringIn s t.lds lds × StringIn s t.unicode unicode

pub version_before : (w : List ℕ) (n : ℕ) (newer : Bool) (lds unicode : List ℕ) (y : Version) → n ≤ length w
    → VersionIn (take n w) newer lds unicode y → VersionIn w newer lds unicode y
unfolding VersionIn
version_before w n newer lds unicode Zero h k = k
version_before w n newer lds unicode (One t) h k =
    (k.0, string_before w n t.lds lds h k.1, string_before w n t.unicode unicode h k.2)

-- ---- the two strings

module _ (s : List ℕ) (at : ℕ) where
  strings_read : AreOctets s → (t : Strings) → strings_at s at ≡ value t
      → (lds unicode : List ℕ) × (drop at s ≡ tlv 0x13 lds ++ tlv 0x13 unicode) × BothIn s t lds unicode
  unfolding strings_at
  strings_read small t e =
      let a = first_value (element s at 0x13) _ t e in
      let u = a.0 in
      let b = first_value (element s u.to 0x13) _ t a.2 in
      let v = b.0 in
      let c = checked_value (end_check s v.to) (value (record { lds = u; unicode = v })) t b.2 in
      let h = read_element s at 0x13 small u a.1 in
      let k = read_element s u.to 0x13 small v b.1 in
      let p = place_behind s at 0x13 (cut s u) (drop u.to s) u h in
      let q = place_behind s u.to 0x13 (cut s v) (drop v.to s) v k in
      let second : drop u.to s ≡ tlv 0x13 (cut s v) = k.octets_there ∙ rw (nothing_left s v.to c.0, append-nil) in (
        cut s u,
        cut s v,
        h.octets_there ∙ ap (λ (l : List ℕ). tlv 0x13 (cut s u) ++ l) second,
        subst (λ (x : Strings). BothIn s x (cut s u) (cut s v)) (same_value c.1) (record {
          lds_in = record { string_cut = refl; string_ordered = p.1; string_within = p.2 };
          unicode_in = record { string_cut = refl; string_ordered = q.1; string_within = q.2 };
        }),
      )

  read_strings : length s ≤ 65535 → (lds unicode : List ℕ) → drop at s ≡ tlv 0x13 lds ++ tlv 0x13 unicode
      → (t : Strings) × (strings_at s at ≡ value t) × BothIn s t lds unicode
  unfolding strings_at
  read_strings most lds unicode e =
      let a = element_read s at 0x13 most lds (tlv 0x13 unicode) e in
      let u = a.0 in
      let b = last_read s u.to 0x13 most unicode a.2.rest_there in
      let v = b.0 in
      let p = place_behind s at 0x13 lds (tlv 0x13 unicode) u a.2 in
      let q = place_behind s u.to 0x13 unicode [] v b.2 in
      let t : Strings = record { lds = u; unicode = v } in (
        t,
        value_then (element s at 0x13) _ u (value t) a.1 (value_then (element s u.to 0x13) _ v (value t) b.1
            (value_checked (end_check s v.to) (value t) (value t) (left_nothing s v.to q.2 b.2.rest_there) refl)),
        record {
          lds_in = record {
            string_cut = cut_there s at 0x13 lds (tlv 0x13 unicode) u a.2;
            string_ordered = p.1;
            string_within = p.2;
          };
          unicode_in = record {
            string_cut = cut_there s u.to 0x13 unicode [] v b.2;
            string_ordered = q.1;
            string_within = q.2;
          };
        },
      )

-- ---- their sequence

both_before : (w : List ℕ) (n : ℕ) (t : Strings) (lds unicode : List ℕ) → n ≤ length w → BothIn (take n w) t lds unicode
    → BothIn w t lds unicode
both_before w n t lds unicode h k = record {
  lds_in = string_before w n t.lds lds h k.lds_in;
  unicode_in = string_before w n t.unicode unicode h k.unicode_in;
}

module _ (s : List ℕ) (at : ℕ) where
  sequence_read : AreOctets s → (t : Strings) → sequence_at s at ≡ value t
      → (lds unicode : List ℕ) × (drop at s ≡ tlv 0x30 (tlv 0x13 lds ++ tlv 0x13 unicode)) × BothIn s t lds unicode
  unfolding sequence_at
  sequence_read small t e =
      let a = first_value (element s at 0x30) _ t e in
      let v = a.0 in
      let b = first_value (strings_at (take v.to s) v.from) _ t a.2 in
      let c = checked_value (end_check s v.to) (value b.0) t b.2 in
      let h = read_element s at 0x30 small v a.1 in
      let r = strings_read (take v.to s) v.from (octets_before v.to s small) b.0 b.1 in
      let content = sym (inside s at 0x30 (cut s v) (drop v.to s) v h) ∙ r.2 in
      let alone : drop at s ≡ tlv 0x30 (cut s v) = h.octets_there ∙ rw (nothing_left s v.to c.0, append-nil) in (
        r.0,
        r.1,
        alone ∙ ap (tlv 0x30) content,
        subst (λ (x : Strings). BothIn s x r.0 r.1) (same_value c.1)
            (both_before s v.to b.0 r.0 r.1 h.ends_within_lem r.3),
      )

  read_sequence : length s ≤ 65535 → (lds unicode : List ℕ) → drop at s ≡ tlv 0x30 (tlv 0x13 lds ++ tlv 0x13 unicode)
      → (t : Strings) × (sequence_at s at ≡ value t) × BothIn s t lds unicode
  unfolding sequence_at
  read_sequence most lds unicode e =
      let two = tlv 0x13 lds ++ tlv 0x13 unicode in
      let a = last_read s at 0x30 most two e in
      let v = a.0 in
      let h = a.2 in
      let p = place_behind s at 0x30 two [] v h in
      let b = read_strings (take v.to s) v.from (take_most v.to 65535 s most) lds unicode
      (inside s at 0x30 two [] v h) in
      let t = b.0 in (
        t,
        value_then (element s at 0x30) _ v (value t) a.1
            (value_then (strings_at (take v.to s) v.from) _ t (value t) b.1
            (value_checked (end_check s v.to) (value t) (value t) (left_nothing s v.to p.2 h.rest_there) refl)),
        both_before s v.to t lds unicode h.ends_within_lem b.2,
      )

-- ---- by the version

module _ (s : List ℕ) (at : ℕ) where
  pub behind_read : AreOctets s → (newer : Bool) (y : Version) → version_at newer s at ≡ value y
      → (lds unicode : List ℕ) × (drop at s ≡ strings_of newer lds unicode) × VersionIn s newer lds unicode y
  unfolding version_at strings_of VersionIn
  behind_read small false y e =
      let a = checked_value (end_check s at) (value Zero) y e in
      ([], [], nothing_left s at a.0, subst (VersionIn s false [] []) (same_value a.1) refl)
  behind_read small true y e =
      let a = first_value (sequence_at s at) (λ (t : Strings). value (One t)) y e in
      let r = sequence_read s at small a.0 a.1 in (
        r.0,
        r.1,
        r.2,
        subst (VersionIn s true r.0 r.1) (same_value a.2) (refl, r.3.lds_in, r.3.unicode_in),
      )

  pub read_behind : length s ≤ 65535 → at ≤ length s → (newer : Bool) (lds unicode : List ℕ)
      → drop at s ≡ strings_of newer lds unicode
      → (y : Version) × (version_at newer s at ≡ value y) × VersionIn s newer lds unicode y
  unfolding version_at strings_of VersionIn
  read_behind most within false lds unicode e =
      (Zero, value_checked (end_check s at) (value Zero) (value Zero) (left_nothing s at within e) refl, refl)
  read_behind most within true lds unicode e =
      let r = read_sequence s at most lds unicode e in (
        One r.0,
        value_then (sequence_at s at) (λ (t : Strings). value (One t)) r.0 (value (One r.0)) r.1 refl,
        (refl, r.2.lds_in, r.2.unicode_in),
      )

-- DEMAND 2, stage 3: an EF.COM is read exactly when its inside is the encoding of `0107` or `0108`, six digits and a list of
-- group tags, none twice.
use Prim.Native.Nat.{ℕ, suc, ◌≤◌}
use mathlib.Core.Path.{◌≡◌, refl, ap, sym, ◌∙◌, subst}
use mathlib.Core.Bool.{Bool, true, false, cond, not, ◌&&◌, ◌||◌}
use mathlib.Core.List.{List, [], ◌∷◌, ◌++◌, append-nil}
use borrow.Author.Tests.{not-true}
use lib.ListN.{length, take, drop}
use Rattle.lent.proofs.Bools.{and_both, both_and, not_so}
use Rattle.refusal.specs.Numbers.{by}
use Rattle.refusal.specs.Outcome.{passed, refused, unless}
use Rattle.zone.specs.Alphabet.{is_digit, every}
use Rattle.tlv.specs.declared.Stretch.{Stretch}
use Rattle.tlv.specs.Read.{Read, value, and_then, checked}
use Rattle.tlv.specs.Element.{tlv, element}
use Rattle.tlv.proofs.Joined.{same_value, first_value, value_then, checked_value, value_checked}
use Rattle.tlv.proofs.Encoded.{Stands, inside}
use Rattle.tlv.specs.Cut.{cut, has_octets, end_check}
use Rattle.lent.specs.Octets.{alike, stands}
use Rattle.tlv.specs.Tags.{is_group}
use Rattle.efcom.specs.EfCom.{known_from, once_from, tags_check, from_tag_list}
use Rattle.efcom.specs.EfCom.{is_unicode, from_unicode, is_version, from_version}
use Rattle.efcom.specs.EfCom.{read_ef_com}
use Rattle.efcom.specs.declared.Common.{Common}
use Rattle.tlv.specs.Versions.{both, lds17, lds18}
use Rattle.zone.specs.Octets.{AreOctets}
use Rattle.presentation_theorems.specs.Presented.{is_once, lds_of, common_inside}
use Rattle.refusal.proofs.Outcomes.{refused_not_passed, both_passed, unless_kept, kept_unless}
use Rattle.presentation_theorems.proofs.NoneTwice.{once_after, once_none, none_once}
use Rattle.tlv.proofs.Standing.{element_read, last_read, cut_there, has_octets_lem, octets_had, place_behind, followed_by}
use Rattle.presentation_theorems.proofs.Elements.{octets_before, take_most, read_element, nothing_left, left_nothing}
use Rattle.presentation_theorems.proofs.Elements.{alike_same, StringIn, string_before}

-- ---- the tag list

known : (place : ℕ) (l : List ℕ) → known_from place l ≡ passed → every is_group l ≡ true
unfolding known_from every
known place [] e = refl
known place (c ∷ t) e = go (is_group c) refl e (known (suc place) t)
  where
    go : (b : Bool) → is_group c ≡ b → cond b (known_from (suc place) t) (refused (by 11) place) ≡ passed
        → (known_from (suc place) t ≡ passed → every is_group t ≡ true)
        → is_group c && every is_group t ≡ true
    go true f h rest = both_and f (rest h)
    go false f h rest = absurd (refused_not_passed h)

pub known_back : (place : ℕ) (l : List ℕ) → every is_group l ≡ true → known_from place l ≡ passed
unfolding known_from every
known_back place [] e = refl
known_back place (c ∷ t) e = let both = and_both (is_group c) (every is_group t) e in rw both.0
    (known_back (suc place) t both.1)

once : (place : ℕ) (before l : List ℕ) → once_from place before l ≡ passed → once_after before l ≡ true
unfolding once_from once_after
once place before [] e = refl
once place before (c ∷ t) e = go (stands c before) refl e (once (suc place) (c ∷ before) t)
  where
    go : (b : Bool) → stands c before ≡ b → cond b (refused (by 11) place) (once_from (suc place) (c ∷ before) t) ≡ passed
        → (once_from (suc place) (c ∷ before) t ≡ passed → once_after (c ∷ before) t ≡ true)
        → not (stands c before) && once_after (c ∷ before) t ≡ true
    go true f h rest = absurd (refused_not_passed h)
    go false f h rest = both_and (not_so (stands c before) f) (rest h)

pub once_back : (place : ℕ) (before l : List ℕ) → once_after before l ≡ true → once_from place before l ≡ passed
unfolding once_from once_after
once_back place before [] e = refl
once_back place before (c ∷ t) e =
    let both = and_both (not (stands c before)) (once_after (c ∷ before) t) e in
    rw (not-true (stands c before) both.0) (once_back (suc place) (c ∷ before) t both.1)

pub record TagsKept (tags : List ℕ) : Type 0 where
  pub known_tags : every is_group tags ≡ true
  pub once_tags : is_once tags ≡ true

module _ (s : List ℕ) (at : ℕ) where
  tags_kept : (v : Stretch) → tags_check s v ≡ passed → TagsKept (cut s v)
  unfolding tags_check
  tags_kept v e =
      let l = cut s v in
      let a = both_passed (known_from v.from l) (once_from v.from [] l) e in
      record { known_tags = known v.from l a.0; once_tags = once_none l (once v.from [] l a.1) }

  kept_tags : (v : Stretch) (tags : List ℕ) → cut s v ≡ tags → TagsKept tags → tags_check s v ≡ passed
  unfolding tags_check
  kept_tags v tags e k =
      rw (e, known_back v.from tags k.known_tags, once_back v.from [] tags (none_once tags k.once_tags))

  list_read : AreOctets s → (v : Stretch) → from_tag_list s at ≡ value v
      → (drop at s ≡ tlv 0x5C (cut s v)) × TagsKept (cut s v) × (v.from ≤ v.to) × (v.to ≤ length s)
  unfolding from_tag_list
  list_read small v e =
      let a = first_value (element s at 0x5C)
      (λ (u : Stretch). checked (tags_check s u) (checked (end_check s u.to) (value u))) v e in
      let u = a.0 in
      let b = checked_value (tags_check s u) (checked (end_check s u.to) (value u)) v a.2 in
      let d = checked_value (end_check s u.to) (value u) v b.1 in
      let same : u ≡ v = same_value d.1 in
      let h = read_element s at 0x5C small u a.1 in
      let places = place_behind s at 0x5C (cut s u) (drop u.to s) u h in
      let there : drop at s ≡ tlv 0x5C (cut s u) = h.octets_there ∙ rw (nothing_left s u.to d.0, append-nil) in
      subst (λ (x : Stretch). (drop at s ≡ tlv 0x5C (cut s x)) × TagsKept (cut s x) × (x.from ≤ x.to) × (x.to ≤ length s)) same
      (there, tags_kept u b.0, places.1, places.2)

  read_list : length s ≤ 65535 → (tags : List ℕ) → drop at s ≡ tlv 0x5C tags → TagsKept tags
      → (v : Stretch) × (from_tag_list s at ≡ value v) × (cut s v ≡ tags) × (v.from ≤ v.to) × (v.to ≤ length s)
  unfolding from_tag_list
  read_list most tags e k =
      let a = last_read s at 0x5C most tags e in
      let v = a.0 in
      let there = cut_there s at 0x5C tags [] v a.2 in
      let places = place_behind s at 0x5C tags [] v a.2 in (
        v,
        value_then (element s at 0x5C) (λ (u : Stretch). checked (tags_check s u) (checked (end_check s u.to) (value u))) v
            (value v) a.1
            (value_checked (tags_check s v) (checked (end_check s v.to) (value v)) (value v) (kept_tags v tags there k)
            (value_checked (end_check s v.to) (value v) (value v)
            (left_nothing s v.to places.2 a.2.rest_there) refl)),
        there,
        places.1,
        places.2,
      )

-- ---- the six digits, and the list behind them

pub record DigitsKept (digits : List ℕ) : Type 0 where
  pub six_digits : length digits ≡ 6
  pub only_digits : every is_digit digits ≡ true

-- what is read from a place, where digits and a list stand with `x` before them
record Listing (s : List ℕ) (at : ℕ) (x : List ℕ → List ℕ → List ℕ) (c : Common) : Type 0 where
  digits : List ℕ
  there : drop at s ≡ x digits (cut s c.tags)
  digits_in : StringIn s c.unicode digits
  digits_kept : DigitsKept digits
  tags_in_lem : StringIn s c.tags (cut s c.tags)
  tags_listed : TagsKept (cut s c.tags)

-- what reads there, of this version, these digits and these tags
abbrev pub Reads : (s : List ℕ) (newer : Bool) (digits tags : List ℕ) → Read Common → Type 0
Reads s newer digits tags m =
    (c : Common) × (m ≡ value c) × (c.newer ≡ newer) × StringIn s c.unicode digits × StringIn s c.tags tags

unfoldable digits_inside : List ℕ → List ℕ → List ℕ
digits_inside digits tags = tlv 0x5F36 digits ++ tlv 0x5C tags

module _ (newer : Bool) (s : List ℕ) (at : ℕ) where
  abbrev then_said : Stretch → Stretch → Read Common
  then_said u v = value (record { newer = newer; unicode = u; tags = v })

  abbrev then_list : Stretch → Read Common
  then_list u = checked (unless (is_unicode s u) 11 at) (and_then (from_tag_list s u.to) (then_said u))

  unicode_read : AreOctets s → (c : Common) → from_unicode newer s at ≡ value c
      → Listing s at digits_inside c × (c.newer ≡ newer)
  unfolding from_unicode is_unicode digits_inside
  unicode_read small c e =
      let a = first_value (element s at 0x5F36) then_list c e in
      let u = a.0 in
      let b = checked_value (unless (is_unicode s u) 11 at) (and_then (from_tag_list s u.to) (then_said u)) c a.2 in
      let six = and_both (has_octets 6 u) (every is_digit (cut s u)) (unless_kept (is_unicode s u) 11 at b.0) in
      let h = read_element s at 0x5F36 small u a.1 in
      let p = place_behind s at 0x5F36 (cut s u) (drop u.to s) u h in
      let f = first_value (from_tag_list s u.to) (then_said u) c b.1 in
      let d = list_read s u.to small f.0 f.1 in
      subst (λ (x : Common). Listing s at digits_inside x × (x.newer ≡ newer)) (same_value f.2) (
        record {
          digits = cut s u;
          there = h.octets_there ∙ ap (λ (l : List ℕ). tlv 0x5F36 (cut s u) ++ l) d.0;
          digits_in = record { string_cut = refl; string_ordered = p.1; string_within = p.2 };
          digits_kept = record {
            six_digits = has_octets_lem s at 0x5F36 (cut s u) (drop u.to s) u h 6 six.0;
            only_digits = six.1;
          };
          tags_in_lem = record { string_cut = refl; string_ordered = d.2; string_within = d.3 };
          tags_listed = d.1;
        },
        refl,
      )

  read_unicode : length s ≤ 65535 → (digits tags : List ℕ) → drop at s ≡ digits_inside digits tags → DigitsKept digits
      → TagsKept tags → Reads s newer digits tags (from_unicode newer s at)
  unfolding from_unicode is_unicode digits_inside
  read_unicode most digits tags e k t =
      let a = element_read s at 0x5F36 most digits (tlv 0x5C tags) e in
      let u = a.0 in
      let there = cut_there s at 0x5F36 digits (tlv 0x5C tags) u a.2 in
      let p = place_behind s at 0x5F36 digits (tlv 0x5C tags) u a.2 in
      let b = read_list s u.to most tags a.2.rest_there t in
      let six = octets_had s at 0x5F36 digits (tlv 0x5C tags) u a.2 6 k.six_digits in
      let only : every is_digit (cut s u) ≡ true = ap (every is_digit) there ∙ k.only_digits in
      let c : Common = record { newer = newer; unicode = u; tags = b.0 } in (
        c,
        value_then (element s at 0x5F36) then_list u (value c) a.1
            (value_checked (unless (is_unicode s u) 11 at) (and_then (from_tag_list s u.to) (then_said u)) (value c)
            (kept_unless (is_unicode s u) 11 at (both_and six only))
            (value_then (from_tag_list s u.to) (then_said u) b.0 (value c) b.1 refl)),
        refl,
        record { string_cut = there; string_ordered = p.1; string_within = p.2 },
        record { string_cut = b.2; string_ordered = b.3; string_within = b.4 },
      )

-- ---- which of the two versions

said : (l : List ℕ) → alike l lds17 || alike l lds18 ≡ true → l ≡ lds_of (not (alike l lds17))
unfolding lds_of
said l e = go (alike l lds17) refl e
  where
    go : (b : Bool) → alike l lds17 ≡ b → b || alike l lds18 ≡ true → l ≡ cond (not b) lds18 lds17
    go true f h = alike_same l lds17 f
    go false f h = alike_same l lds18 h

pub saying : (newer : Bool)
    → (alike (lds_of newer) lds17 || alike (lds_of newer) lds18 ≡ true) × (not (alike (lds_of newer) lds17) ≡ newer)
unfolding lds_of alike
saying true = (refl, refl)
saying false = (refl, refl)

four_octets : (newer : Bool) → length (lds_of newer) ≡ 4
unfolding lds_of
four_octets true = refl
four_octets false = refl

module _ (s : List ℕ) (at : ℕ) where
  abbrev then_unicode : Stretch → Read Common
  then_unicode u = checked (unless (is_version both s u) 11 at) (from_unicode (not (alike (cut s u) lds17)) s u.to)

  version_read : AreOctets s → (c : Common) → from_version both s at ≡ value c → Listing s at (common_inside c.newer) c
  unfolding from_version is_version common_inside digits_inside
  version_read small c e =
      let a = first_value (element s at 0x5F01) then_unicode c e in
      let u = a.0 in
      let l = cut s u in
      let newer = not (alike l lds17) in
      let b = checked_value (unless (is_version both s u) 11 at) (from_unicode newer s u.to) c a.2 in
      let which = and_both (has_octets 4 u) (alike l lds17 || alike l lds18) (unless_kept (is_version both s u) 11 at b.0) in
      let h = read_element s at 0x5F01 small u a.1 in
      let f = unicode_read newer s u.to small c b.1 in
      let d = f.0 in
      record {
        digits = d.digits;
        there = followed_by 0x5F01 (drop at s) l (lds_of c.newer) (drop u.to s)
            (tlv 0x5F36 d.digits ++ tlv 0x5C (cut s c.tags)) h.octets_there
            (said l which.1 ∙ ap lds_of (sym f.1)) d.there;
        digits_in = d.digits_in;
        digits_kept = d.digits_kept;
        tags_in_lem = d.tags_in_lem;
        tags_listed = d.tags_listed;
      }

  read_version : length s ≤ 65535 → (newer : Bool) (digits tags : List ℕ) → drop at s ≡ common_inside newer digits tags
      → DigitsKept digits → TagsKept tags → Reads s newer digits tags (from_version both s at)
  unfolding from_version is_version common_inside digits_inside
  read_version most newer digits tags e k t =
      let four = lds_of newer in
      let rest = tlv 0x5F36 digits ++ tlv 0x5C tags in
      let a = element_read s at 0x5F01 most four rest e in
      let u = a.0 in
      let there = cut_there s at 0x5F01 four rest u a.2 in
      let b = read_unicode newer s u.to most digits tags a.2.rest_there k t in
      let long = octets_had s at 0x5F01 four rest u a.2 4 (four_octets newer) in
      let known : alike (cut s u) lds17 || alike (cut s u) lds18 ≡ true =
      ap (λ (l : List ℕ). alike l lds17 || alike l lds18) there ∙ (saying newer).0 in
      let which : not (alike (cut s u) lds17) ≡ newer = ap (λ (l : List ℕ). not (alike l lds17)) there ∙ (saying newer).1 in (
        b.0,
        value_then (element s at 0x5F01) then_unicode u (value b.0) a.1
            (value_checked (unless (is_version both s u) 11 at) (from_unicode (not (alike (cut s u) lds17)) s u.to)
            (value b.0) (kept_unless (is_version both s u) 11 at (both_and long known))
            (ap (λ (x : Bool). from_unicode x s u.to) which ∙ b.1)),
        b.2,
        b.3,
        b.4,
      )

-- ---- EF.COM, where its inside stands in a presentation

-- what is known of an EF.COM that was read
pub record CommonIn (w l : List ℕ) (c : Common) : Type 0 where
  pub digits : List ℕ
  pub common_there : l ≡ common_inside c.newer digits (cut w c.tags)
  pub unicode_there : cut w c.unicode ≡ digits
  pub digits_kept : DigitsKept digits
  pub tags_kept : TagsKept (cut w c.tags)

module _ (w : List ℕ) (at tag : ℕ) (l rest : List ℕ) (o : Stretch) (h : Stands w at tag l rest o) where
  pub common_read : AreOctets w → (c : Common) → read_ef_com both w o ≡ value c → CommonIn w l c
  unfolding read_ef_com
  common_read small c e =
      let s = take o.to w in
      let r = version_read s o.from (octets_before o.to w small) c e in
      let tags = string_before w o.to c.tags (cut s c.tags) h.ends_within_lem r.tags_in_lem in
      let unicode = string_before w o.to c.unicode r.digits h.ends_within_lem r.digits_in in
      let same : cut s c.tags ≡ cut w c.tags = sym tags.string_cut in
      record {
        digits = r.digits;
        common_there = sym (inside w at tag l rest o h) ∙ r.there ∙ ap (common_inside c.newer r.digits) same;
        unicode_there = unicode.string_cut;
        digits_kept = r.digits_kept;
        tags_kept = subst TagsKept same r.tags_listed;
      }

  pub read_common : length w ≤ 65535 → (newer : Bool) (digits tags : List ℕ) → l ≡ common_inside newer digits tags
      → DigitsKept digits → TagsKept tags
      → (c : Common) × (read_ef_com both w o ≡ value c) × (c.newer ≡ newer) × (cut w c.unicode ≡ digits)
      × (cut w c.tags ≡ tags)
  unfolding read_ef_com
  read_common most newer digits tags e k t =
      let s = take o.to w in
      let r = read_version s o.from (take_most o.to 65535 w most) newer digits tags (inside w at tag l rest o h ∙ e) k t in
      let c = r.0 in (
        c,
        r.1,
        r.2,
        (string_before w o.to c.unicode digits h.ends_within_lem r.3).string_cut,
        (string_before w o.to c.tags tags h.ends_within_lem r.4).string_cut,
      )

-- DEMAND 2, stage 4: entries of a security object are read exactly where their encodings stand, each a number and a digest.
use Prim.Native.Nat.{ℕ, ◌+◌, ◌-◌, ◌≤◌, ◌<◌}
use mathlib.Core.Path.{◌≡◌, refl, ap, sym, ◌∙◌, subst}
use mathlib.Core.Bool.{Bool, true, ◌&&◌}
use mathlib.Core.List.{List, [], ◌∷◌, ◌++◌, append-nil}
use native.Mathlib.Omega.{arith}
use borrow.Author.Tests.{leb-true, le-leb}
use lib.Dec.{leb, ltb}
use lib.ListN.{length, take, drop, get_or}
use lib.Seq.{length-take-le}
use Rattle.lent.proofs.Bools.{and_both, both_and}
use Rattle.refusal.specs.Outcome.{unless}
use Rattle.tlv.specs.declared.Stretch.{Stretch}
use Rattle.tlv.specs.Read.{value, checked}
use Rattle.tlv.specs.Element.{tlv, element}
use Rattle.tlv.proofs.Joined.{same_value, first_value, value_then, checked_value, value_checked}
use Rattle.tlv.proofs.Encoded.{inside}
use Rattle.tlv.specs.Cut.{cut, has_octets, end_check}
use Rattle.object.specs.Object.{GroupHash, is_group_number, digest_at, number_at, entry_at}
use Rattle.zone.specs.Octets.{AreOctets}
use Rattle.presentation_theorems.specs.Presented.{Signed, signed_of, EntryKept}
use Rattle.refusal.proofs.Outcomes.{unless_kept, kept_unless}
use Rattle.tlv.proofs.Standing.{element_read, last_read, has_octets_lem, octets_had, place_behind, one_octet, followed_by}
use Rattle.presentation_theorems.proofs.Elements.{octets_before, take_most, read_element, nothing_left, left_nothing}
use Rattle.presentation_theorems.proofs.Elements.{end_there, cut_before}
use Rattle.lent.proofs.Lists.{head_same}

-- ---- the entry that was read

unfoldable pub signed_at : List ℕ → GroupHash → Signed
signed_at w e = record { number = e.group; digest = take 32 (drop e.digest w) }

unfoldable pub signed_in : List ℕ → List GroupHash → List Signed
signed_in w [] = []
signed_in w (e ∷ es) = signed_at w e ∷ signed_in w es

-- every digest stands within so many octets, and not at the start
unfoldable pub held_in : ℕ → List GroupHash → Bool
held_in n [] = true
held_in n (e ∷ es) = (ltb 0 e.digest && leb (e.digest + 32) n) && held_in n es

digest_before : (w : List ℕ) (n at : ℕ) → at + 32 ≤ n → take 32 (drop at (take n w)) ≡ take 32 (drop at w)
digest_before w n at h =
    let gap : at + 32 - at ≡ 32 = omega arith in
    rw gap at (cut_before w n at (at + 32) h (omega arith))

pub signed_before : (w : List ℕ) (n : ℕ) (es : List GroupHash) → held_in n es ≡ true → signed_in (take n w) es ≡ signed_in w es
unfolding signed_in signed_at held_in
signed_before w n [] h = refl
signed_before w n (e ∷ es) h =
    let a = and_both (ltb 0 e.digest && leb (e.digest + 32) n) (held_in n es) h in
    let b = and_both (ltb 0 e.digest) (leb (e.digest + 32) n) a.0 in
    let one = digest_before w n e.digest (leb-true (e.digest + 32) n b.1) in
    let two = signed_before w n es a.1 in
    rw (one, two)

pub held_more : (n m : ℕ) (es : List GroupHash) → n ≤ m → held_in n es ≡ true → held_in m es ≡ true
unfolding held_in
held_more n m [] k h = refl
held_more n m (e ∷ es) k h =
    let a = and_both (ltb 0 e.digest && leb (e.digest + 32) n) (held_in n es) h in
    let b = and_both (ltb 0 e.digest) (leb (e.digest + 32) n) a.0 in
    both_and (both_and b.0 (le-leb (e.digest + 32) m (omega (arith, leb-true (e.digest + 32) n b.1))))
    (held_more n m es k a.1)

-- ---- the digest

record DigestRead (s : List ℕ) (g at : ℕ) (e : GroupHash) : Type 0 where
  digest_there : drop at s ≡ tlv 0x04 (take 32 (drop e.digest s))
  digest_long : length (take 32 (drop e.digest s)) ≡ 32
  group_told : e.group ≡ g
  digest_last : e.end ≡ length s
  digest_behind : at < e.digest
  digest_within : e.digest + 32 ≤ length s

module _ (s : List ℕ) (g place at : ℕ) where
  abbrev after : Stretch → GroupHash
  after v = record { group = g; place = place; digest = v.from; end = v.to }

  digest_read : AreOctets s → (e : GroupHash) → digest_at s g place at ≡ value e → DigestRead s g at e
  unfolding digest_at cut
  digest_read small e f =
      let a = first_value (element s at 0x04)
      (λ (u : Stretch). checked (unless (has_octets 32 u) 12 at) (checked (end_check s u.to) (value (after u)))) e f in
      let v = a.0 in
      let b = checked_value (unless (has_octets 32 v) 12 at) (checked (end_check s v.to) (value (after v))) e a.2 in
      let d = checked_value (end_check s v.to) (value (after v)) e b.1 in
      let h = read_element s at 0x04 small v a.1 in
      let long : length (cut s v) ≡ 32 = has_octets_lem s at 4 (cut s v) (drop v.to s) v h 32
      (unless_kept (has_octets 32 v) 12 at b.0) in
      let places = place_behind s at 0x04 (cut s v) (drop v.to s) v h in
      let ends = h.to_place in
      let gap : v.to - v.from ≡ 32 = omega arith in
      let same : cut s v ≡ take 32 (drop v.from s) = ap (λ (n : ℕ). take n (drop v.from s)) gap in
      let all : DigestRead s g at (after v) = record {
        digest_there = h.octets_there ∙ ap (λ (l : List ℕ). tlv 0x04 (cut s v) ++ l) (nothing_left s v.to d.0)
            ∙ append-nil (tlv 0x04 (cut s v)) ∙ ap (tlv 0x04) same;
        digest_long = sym (ap length same) ∙ long;
        group_told = refl;
        digest_last = end_there s v.to d.0;
        digest_behind = places.0;
        digest_within = omega (arith, places.2);
      } in
      subst (DigestRead s g at) (same_value d.1) all

  read_digest : length s ≤ 65535 → (d : List ℕ) → length d ≡ 32 → drop at s ≡ tlv 0x04 d
      → (e : GroupHash) × (digest_at s g place at ≡ value e) × (e.group ≡ g) × (take 32 (drop e.digest s) ≡ d)
      × (e.end ≡ length s) × (at < e.digest) × (e.digest + 32 ≤ length s)
  unfolding digest_at cut
  read_digest most d long f =
      let a = last_read s at 0x04 most d f in
      let v = a.0 in
      let h = a.2 in
      let places = place_behind s at 0x04 d [] v h in
      let ends = h.to_place in
      let gap : v.to - v.from ≡ 32 = omega arith in
      let end = left_nothing s v.to places.2 h.rest_there in
      let there : take 32 (drop v.from s) ≡ d = ap (λ (n : ℕ). take n (drop v.from s)) (sym gap) ∙ h.content_there in (
        after v,
        value_then (element s at 0x04)
            (λ (u : Stretch). checked (unless (has_octets 32 u) 12 at) (checked (end_check s u.to) (value (after u)))) v
            (value (after v)) a.1
            (value_checked (unless (has_octets 32 v) 12 at) (checked (end_check s v.to) (value (after v))) (value (after v))
            (kept_unless (has_octets 32 v) 12 at (octets_had s at 4 d [] v h 32 long))
            (value_checked (end_check s v.to) (value (after v)) (value (after v)) end refl)),
        refl,
        there,
        end_there s v.to end,
        places.0,
        omega (arith, places.2),
      )

-- ---- the number, and the digest behind it

unfoldable signed_inside : Signed → List ℕ
signed_inside x = tlv 0x02 (x.number ∷ []) ++ tlv 0x04 x.digest

record NumberRead (s : List ℕ) (at : ℕ) (e : GroupHash) : Type 0 where
  number_there : drop at s ≡ signed_inside (signed_at s e)
  number_kept : EntryKept (signed_at s e)
  number_last : e.end ≡ length s
  number_behind : at < e.digest
  number_within : e.digest + 32 ≤ length s

module _ (s : List ℕ) (at : ℕ) where
  number_read : AreOctets s → (e : GroupHash) → number_at s at ≡ value e → NumberRead s at e
  unfolding number_at is_group_number signed_inside signed_at
  number_read small e f =
      let a = first_value (element s at 0x02)
      (λ (u : Stretch). checked (unless (is_group_number s u) 12 at) (digest_at s (get_or s u.from 0) at u.to)) e f in
      let v = a.0 in
      let n = get_or s v.from 0 in
      let b = checked_value (unless (is_group_number s v) 12 at) (digest_at s n at v.to) e a.2 in
      let c = and_both (has_octets 1 v) (leb 1 n && leb n 16) (unless_kept (is_group_number s v) 12 at b.0) in
      let k = and_both (leb 1 n) (leb n 16) c.1 in
      let h = read_element s at 0x02 small v a.1 in
      let one : length (cut s v) ≡ 1 = has_octets_lem s at 2 (cut s v) (drop v.to s) v h 1 c.0 in
      let d = digest_read s n at v.to small e b.1 in
      let places = place_behind s at 0x02 (cut s v) (drop v.to s) v h in
      let told : n ≡ e.group = sym d.group_told in
      let content : cut s v ≡ e.group ∷ [] = one_octet s at 2 (cut s v) (drop v.to s) v h one ∙ ap (λ (x : ℕ). x ∷ []) told in
      record {
        number_there =
            followed_by 2 (drop at s) (cut s v) (e.group ∷ []) (drop v.to s) (tlv 0x04 (take 32 (drop e.digest s)))
            h.octets_there content d.digest_there;
        number_kept = record {
          number_least = omega (arith, leb-true 1 n k.0);
          number_most = omega
              (arith, leb-true n 16 k.1);
          digest_octets = d.digest_long;
        };
        number_last = d.digest_last;
        number_behind = omega (arith, d.digest_behind, places.0, places.1);
        number_within = d.digest_within;
      }

  read_number : length s ≤ 65535 → (x : Signed) → EntryKept x → drop at s ≡ signed_inside x
      → (e : GroupHash) × (number_at s at ≡ value e) × (signed_at s e ≡ x) × (e.end ≡ length s) × (at < e.digest)
      × (e.digest + 32 ≤ length s)
  unfolding number_at is_group_number signed_inside signed_at
  read_number most x k f =
      let a = element_read s at 0x02 most (x.number ∷ []) (tlv 0x04 x.digest) f in
      let v = a.0 in
      let h = a.2 in
      let n = get_or s v.from 0 in
      let told : x.number ≡ n = head_same x.number n [] []
      (one_octet s at 2 (x.number ∷ []) (tlv 0x04 x.digest) v h refl) in
      let d = read_digest s n at v.to most x.digest k.digest_octets h.rest_there in
      let e = d.0 in
      let places = place_behind s at 0x02 (x.number ∷ []) (tlv 0x04 x.digest) v h in
      let low : 1 ≤ n = omega (arith, k.number_least) in
      let high : n ≤ 16 = omega (arith, k.number_most) in
      let test = both_and (octets_had s at 2 (x.number ∷ []) (tlv 0x04 x.digest) v h 1 refl)
      (both_and (le-leb 1 n low) (le-leb n 16 high)) in
      let number : e.group ≡ x.number = d.2 ∙ sym told in
      let digest : take 32 (drop e.digest s) ≡ x.digest = d.3 in (
        e,
        value_then (element s at 0x02)
            (λ (u : Stretch). checked (unless (is_group_number s u) 12 at) (digest_at s (get_or s u.from 0) at u.to)) v
            (value e) a.1
            (value_checked (unless (is_group_number s v) 12 at) (digest_at s n at v.to) (value e)
            (kept_unless (is_group_number s v) 12 at test) d.1),
        λ i. record { number = number i; digest = digest i },
        d.4,
        omega (arith, d.5, places.0, places.1),
        d.6,
      )

-- ---- one entry

pub record EntryRead (s : List ℕ) (at : ℕ) (e : GroupHash) : Type 0 where
  pub entry_there : drop at s ≡ signed_of (signed_at s e) ++ drop e.end s
  pub entry_kept : EntryKept (signed_at s e)
  pub entry_behind : at < e.end
  pub entry_ends : e.end ≤ length s
  pub entry_digest : 0 < e.digest
  pub entry_within : e.digest + 32 ≤ length s

module _ (s : List ℕ) (at : ℕ) where
  same_signed : (n : ℕ) (e : GroupHash) → e.digest + 32 ≤ n → signed_at (take n s) e ≡ signed_at s e
  unfolding signed_at
  same_signed n e h = let f = digest_before s n e.digest h in rw f

  pub entry_read : AreOctets s → (e : GroupHash) → entry_at s at ≡ value e → EntryRead s at e
  unfolding entry_at signed_of signed_inside
  entry_read small e f =
      let a = first_value (element s at 0x30) (λ (u : Stretch). number_at (take u.to s) u.from) e f in
      let v = a.0 in
      let h = read_element s at 0x30 small v a.1 in
      let t = take v.to s in
      let long : length t ≡ v.to = length-take-le v.to s h.ends_within_lem in
      let d = number_read t v.from (octets_before v.to s small) e a.2 in
      let places = place_behind s at 0x30 (cut s v) (drop v.to s) v h in
      let last : e.end ≡ v.to = d.number_last ∙ long in
      let fits : e.digest + 32 ≤ v.to = omega (arith, d.number_within) in
      let same : signed_at t e ≡ signed_at s e = same_signed v.to e fits in
      let content : cut s v ≡ signed_inside (signed_at s e) = sym (inside s at 0x30 (cut s v) (drop v.to s) v h)
      ∙ d.number_there ∙ ap signed_inside same in
      let rest : drop v.to s ≡ drop e.end s = ap (λ (n : ℕ). drop n s) (sym last) in
      record {
        entry_there = followed_by 0x30 (drop at s) (cut s v) (signed_inside (signed_at s e)) (drop v.to s) (drop e.end s)
            h.octets_there content rest;
        entry_kept = subst EntryKept same d.number_kept;
        entry_behind = omega (arith, places.0, places.1);
        entry_ends = omega (arith, places.2);
        entry_digest = omega (arith, d.number_behind);
        entry_within = omega (arith, places.2);
      }

  pub read_entry_lem : length s ≤ 65535 → (x : Signed) (rest : List ℕ) → EntryKept x → drop at s ≡ signed_of x ++ rest
      → (e : GroupHash) × (entry_at s at ≡ value e) × (signed_at s e ≡ x) × (drop e.end s ≡ rest) × (at < e.end)
      × (e.end ≤ length s) × (0 < e.digest) × (e.digest + 32 ≤ length s)
  unfolding entry_at signed_of signed_inside
  read_entry_lem most x rest k f =
      let a = element_read s at 0x30 most (signed_inside x) rest f in
      let v = a.0 in
      let h = a.2 in
      let t = take v.to s in
      let long : length t ≡ v.to = length-take-le v.to s h.ends_within_lem in
      let d = read_number t v.from (take_most v.to 65535 s most) x k (inside s at 0x30 (signed_inside x) rest v h) in
      let e = d.0 in
      let places = place_behind s at 0x30 (signed_inside x) rest v h in
      let last : e.end ≡ v.to = d.3 ∙ long in
      let fits : e.digest + 32 ≤ v.to = omega (arith, d.5) in (
        e,
        value_then (element s at 0x30) (λ (u : Stretch). number_at (take u.to s) u.from) v (value e) a.1 d.1,
        sym (same_signed v.to e fits) ∙ d.2,
        ap (λ (n : ℕ). drop n s) last ∙ h.rest_there,
        omega (arith, places.0, places.1),
        omega (arith, places.2),
        omega (arith, d.4),
        omega (arith, places.2),
      )

-- The reader takes exactly what the encoder gives: where an element is read, its encoding stands there, and where an encoding
-- stands, it is read.
use Rattle.std.specs.Prelude.{Option, Some, None}
use Prim.Native.Nat.{ℕ, ◌+◌, ◌-◌, ◌*◌, ◌/◌, ◌%◌, ◌≤◌, ◌<◌}
use mathlib.Core.Path.{◌≡◌, refl, ap, sym, ◌∙◌, subst}
use mathlib.Core.Bool.{Bool, true, false, cond, ◌&&◌}
use mathlib.Core.List.{List, [], ◌∷◌, ◌++◌, append_assoc}
use native.Mathlib.Nat.{div-add-mod', mul-add-div_right, mul-add-mod_self_right, mod-eq_of_lt, div-eq_of_lt, add-zero, mod-lt}
use native.Mathlib.Numerals.{add-one}
use native.Mathlib.Omega.{arith}
use borrow.Author.Tests.{leb-true, leb-false, le-leb, lt-leb, eqb-true, eq-eqb, lt-ltb}
use lib.Dec.{eqb, leb, ltb}
use lib.ListN.{length, take, drop, get_or, length-append, length-drop, take-append-drop}
use lib.Seq.{drop-cons, drop-drop, drop_at, take_at, take-add, get_or-drop, length-take-le}
use Rattle.lent.proofs.Bools.{and_both}
use Rattle.tlv.specs.declared.Stretch.{Stretch}
use Rattle.tlv.specs.declared.Count.{Count}
use Rattle.tlv.specs.Read.{value}
use Rattle.tlv.proofs.Joined.{never_value, same_value, kept_value}
use Rattle.tlv.specs.Element.{tag_octets, length_octets, tlv, size_of, tag_width, tag_at, ends_within, sized, size_at, element}

-- ---- two octets of a number

pub two_high : (a b : ℕ) → b < 256 → (a * 256 + b) / 256 ≡ a
two_high a b h = mul-add-div_right {m = 256} (omega arith) a b ∙ rw (div-eq_of_lt h) (add-zero a)

pub two_low : (a b : ℕ) → b < 256 → (a * 256 + b) % 256 ≡ b
two_low a b h = mul-add-mod_self_right a 256 b ∙ mod-eq_of_lt h

-- ---- an octet, and what is left

pub next_octet : (s : List ℕ) (at : ℕ) → at < length s → drop at s ≡ get_or s at 0 ∷ drop (at + 1) s
next_octet s at h = rw (add-one at) (drop-cons s at 0 h)

-- what stands first where a list is known
module _ (s : List ℕ) (at : ℕ) where
  pub first_there : (a : ℕ) (q : List ℕ) → drop at s ≡ a ∷ q → (get_or s at 0 ≡ a) × (drop (at + 1) s ≡ q)
  first_there a q e = (
    ap (λ (n : ℕ). get_or s n 0) (sym (add-zero at)) ∙ sym (get_or-drop at s 0 0) ∙ ap (λ (l : List ℕ). get_or l 0 0) e,
    sym (drop-drop 1 at s) ∙ ap (drop 1) e,
  )

-- ---- the tag

module _ (s : List ℕ) (at tag : ℕ) where
  tag_octets_lem : ((i : ℕ) → get_or s i 0 < 256) → tag_at s at tag ≡ tag → at + tag_width tag ≤ length s
      → drop at s ≡ tag_octets tag ++ drop (at + tag_width tag) s
  unfolding tag_at tag_width tag_octets
  tag_octets_lem small e h = go (ltb tag 256) refl e h
    where
      go : (b : Bool) → ltb tag 256 ≡ b
          → cond b (get_or s at 0) (get_or s at 0 * 256 + get_or s (at + 1) 0) ≡ tag
          → at + cond b 1 2 ≤ length s
          → drop at s ≡ cond b (tag ∷ []) ((tag / 256) ∷ (tag % 256) ∷ []) ++ drop (at + cond b 1 2) s
      go true q f k = next_octet s at (omega arith) ∙ ap (λ (n : ℕ). n ∷ drop (at + 1) s) f
      go false q f k =
          let a = get_or s at 0 in
          let b = get_or s (at + 1) 0 in
          let high : tag / 256 ≡ a = ap (λ (n : ℕ). n / 256) (sym f) ∙ two_high a b (small (at + 1)) in
          let low : tag % 256 ≡ b = ap (λ (n : ℕ). n % 256) (sym f) ∙ two_low a b (small (at + 1)) in
          let onwards : at + 1 + 1 ≡ at + 2 = omega arith in
          rw (high, low) (next_octet s at (omega arith) ∙ ap (λ (l : List ℕ). a ∷ l)
          (next_octet s (at + 1) (omega arith) ∙ rw onwards))

  octets_tag : (q : List ℕ) → drop at s ≡ tag_octets tag ++ q → (tag_at s at tag ≡ tag) × (drop (at + tag_width tag) s ≡ q)
  unfolding tag_at tag_width tag_octets
  octets_tag q e = go (ltb tag 256) e
    where
      go : (b : Bool) → drop at s ≡ cond b (tag ∷ []) ((tag / 256) ∷ (tag % 256) ∷ []) ++ q
          → (cond b (get_or s at 0) (get_or s at 0 * 256 + get_or s (at + 1) 0) ≡ tag) × (drop (at + cond b 1 2) s ≡ q)
      go true f = first_there s at tag q f
      go false f =
          let one = first_there s at (tag / 256) ((tag % 256) ∷ q) f in
          let two = first_there s (at + 1) (tag % 256) q one.1 in
          let onwards : at + 1 + 1 ≡ at + 2 = omega arith in
          (rw (one.0, two.0) (div-add-mod' tag 256), rw onwards at two.1)

-- ---- the length

module _ (s : List ℕ) (place : ℕ) where
  abbrev x : ℕ
  x = get_or s place 0

  abbrev y : ℕ
  y = get_or s (place + 1) 0

  abbrev z : ℕ
  z = get_or s (place + 2) 0

  onwards_two : place + 1 + 1 ≡ place + 2
  onwards_two = omega arith

  onwards_three : place + 2 + 1 ≡ place + 3
  onwards_three = omega arith

  -- what an answered length says of the octets
  record Told (n : Count) : Type 0 where
    told_there : place + n.told ≤ length s → drop place s ≡ length_octets n.count ++ drop (place + n.told) s
    told_most : n.count ≤ 65535
    told_octets : n.told ≡ length (length_octets n.count)

  not_told : {n : Count} → None ≡ Some n → ⊥
  not_told e = let w : ◌≡◌ {A = ℕ} 0 1 = cc in omega arith

  same_told : {m n : Count} → Some m ≡ Some n → m ≡ n
  same_told e = cc

  short_told : leb x 0x7F ≡ true → Told (record { count = x; told = 1 })
  unfolding length_octets
  short_told a = record {
    told_there = λ h. rw a (next_octet s place (omega arith));
    told_most = omega (arith, leb-true x 0x7F a);
    told_octets = rw a;
  }

  middle_told : x ≡ 0x81 → 0x80 ≤ y → y < 256 → Told (record { count = y; told = 2 })
  unfolding length_octets
  middle_told a b c = record {
    told_there = λ h. rw (lt-leb y 0x7F (omega arith), le-leb y 255 (omega arith))
        (next_octet s place (omega arith) ∙ rw a
        (ap (λ (l : List ℕ). 0x81 ∷ l) (next_octet s (place + 1) (omega arith) ∙ rw onwards_two)));
    told_most = omega arith;
    told_octets = rw (lt-leb y 0x7F (omega arith), le-leb y 255 (omega arith));
  }

  long_told : x ≡ 0x82 → 1 ≤ y → y < 256 → z < 256 → Told (record { count = y * 256 + z; told = 3 })
  unfolding length_octets
  long_told a b c d = record {
    told_there = λ h. rw (
      lt-leb (y * 256 + z) 0x7F (omega arith),
      lt-leb (y * 256 + z) 255 (omega arith),
      two_high y z d,
      two_low y z d,
    )
        (next_octet s place (omega arith)
        ∙ rw a (ap (λ (l : List ℕ). 0x82 ∷ l) (next_octet s (place + 1) (omega arith)
        ∙ rw onwards_two (ap (λ (l : List ℕ). y ∷ l) (next_octet s (place + 2) (omega arith) ∙ rw onwards_three)))));
    told_most = omega arith;
    told_octets = rw (lt-leb (y * 256 + z) 0x7F (omega arith), lt-leb (y * 256 + z) 255 (omega arith));
  }

  told : ((i : ℕ) → get_or s i 0 < 256) → (n : Count) → size_at s place ≡ Some n → Told n
  unfolding size_at size_of
  told small n e = go (leb x 0x7F) (eqb x 0x81 && leb 0x80 y) (eqb x 0x82 && leb 1 y) refl refl refl e
    where
      go : (a b c : Bool) → leb x 0x7F ≡ a → eqb x 0x81 && leb 0x80 y ≡ b → eqb x 0x82 && leb 1 y ≡ c
          → cond a (Some (record { count = x; told = 1 }))
          (cond b (Some (record { count = y; told = 2 })) (cond c (Some (record { count = y * 256 + z; told = 3 })) None))
          ≡ Some n
          → Told n
      go true b c p q r f = rw (same_told f) at (short_told p)
      go false true c p q r f =
          let both = and_both (eqb x 0x81) (leb 0x80 y) q in
          rw (same_told f) at (middle_told (eqb-true x 0x81 both.0) (leb-true 0x80 y both.1) (small (place + 1)))
      go false false true p q r f =
          let both = and_both (eqb x 0x82) (leb 1 y) r in
          rw (same_told f) at (long_told (eqb-true x 0x82 both.0) (leb-true 1 y both.1) (small (place + 1))
          (small (place + 2)))
      go false false false p q r f = absurd (not_told f)

  -- and back
  octets_length : (n : ℕ) (q : List ℕ) → n ≤ 65535 → drop place s ≡ length_octets n ++ q
      → (size_at s place ≡ Some (record { count = n; told = length (length_octets n) }))
      × (drop (place + length (length_octets n)) s ≡ q)
  unfolding size_at size_of length_octets
  octets_length n q most e = go (leb n 0x7F) (leb n 255) refl refl e
    where
      go : (a b : Bool) → leb n 0x7F ≡ a → leb n 255 ≡ b
          → let l = cond a (n ∷ []) (cond b (0x81 ∷ n ∷ []) (0x82 ∷ (n / 256) ∷ (n % 256) ∷ [])) in
          drop place s ≡ l ++ q
          → (size_of x y z ≡ Some (record { count = n; told = length l })) × (drop (place + length l) s ≡ q)
      go true b f g h =
          let one = first_there s place n q h in
          (rw (one.0, f), one.1)
      go false true f g h =
          let one = first_there s place 0x81 (n ∷ q) h in
          let two = first_there s (place + 1) n q one.1 in
          (rw (one.0, two.0, le-leb 0x80 n (omega (arith, leb-false n 0x7F f))), rw onwards_two at two.1)
      go false false f g h =
          let one = first_there s place 0x82 ((n / 256) ∷ (n % 256) ∷ q) h in
          let two = first_there s (place + 1) (n / 256) ((n % 256) ∷ q) one.1 in
          let three = first_there s (place + 2) (n % 256) q (rw onwards_two at two.1) in
          let over : 255 < n = leb-false n 255 g in
          let whole : n / 256 * 256 + n % 256 ≡ n = div-add-mod' n 256 in
          let low : n % 256 < 256 = mod-lt n (omega arith) in
          let some : 1 ≤ n / 256 = omega arith in
          (rw (one.0, two.0, three.0, le-leb 1 (n / 256) some, whole), rw onwards_three at three.1)

-- ---- the element

-- how many octets stand before a content of so many
unfoldable pub head_octets : ℕ → ℕ → ℕ
head_octets tag n = tag_width tag + length (length_octets n)

length-tag : (tag : ℕ) → (length (tag_octets tag) ≡ tag_width tag) × (1 ≤ tag_width tag)
unfolding tag_octets tag_width
length-tag tag = go (ltb tag 256)
  where
    go : (b : Bool) → (length (cond b (tag ∷ []) ((tag / 256) ∷ (tag % 256) ∷ [])) ≡ cond b 1 2) × (1 ≤ cond b 1 2)
    go true = (refl, omega arith)
    go false = (refl, omega arith)

pub length-tlv : (tag : ℕ) (c : List ℕ) → length (tlv tag c) ≡ head_octets tag (length c) + length c
unfolding tlv head_octets
length-tlv tag c =
    let t = tag_octets tag in
    let l = length_octets (length c) in
    let one = length-append t (l ++ c) in
    let two = length-append l c in
    omega (arith, (length-tag tag).0)

pub some_head : (tag n : ℕ) → 1 ≤ head_octets tag n
unfolding head_octets
some_head tag n = omega (arith, (length-tag tag).1)

-- the encoding of a content stands at a place of what holds it, with its value from the one place to the other, and then the rest
pub record Stands (s : List ℕ) (at tag : ℕ) (c rest : List ℕ) (v : Stretch) : Type 0 where
  pub octets_there : drop at s ≡ tlv tag c ++ rest
  pub content_there : take (v.to - v.from) (drop v.from s) ≡ c
  pub rest_there : drop v.to s ≡ rest
  pub from_place : v.from ≡ at + head_octets tag (length c)
  pub to_place : v.to ≡ v.from + length c
  pub ends_within_lem : v.to ≤ length s
  pub content_most : length c ≤ 65535

module _ (s : List ℕ) (at tag : ℕ) where
  sized_stands : ((i : ℕ) → get_or s i 0 < 256) → tag_at s at tag ≡ tag → (n : Count) → size_at s (at + tag_width tag) ≡ Some n
      → (v : Stretch)
      → ends_within s at (at + tag_width tag + n.told) (at + tag_width tag + n.told + n.count) ≡ value v
      → Stands s at tag (take (v.to - v.from) (drop v.from s)) (drop v.to s) v
  unfolding ends_within head_octets tlv
  sized_stands small e n told_so v f =
      let place = at + tag_width tag in
      let a = place + n.told in
      let b = a + n.count in
      let kept = kept_value (leb b (length s)) (value (record { from = a; to = b })) _ at v f in
      let fits : b ≤ length s = leb-true b (length s) kept.0 in
      let t = told s place small n told_so in
      let content = take (b - a) (drop a s) in
      let gap : b - a ≡ n.count = omega arith in
      let left : length (drop a s) ≡ length s - a = length-drop a s in
      let long : length content ≡ n.count = length-take-le (b - a) (drop a s) (omega arith) ∙ gap in
      let onwards : a + (b - a) ≡ b = omega arith in
      let third : drop a s ≡ content ++ drop b s = sym (take-append-drop (b - a) (drop a s))
      ∙ rw (drop-drop (b - a) a s, onwards) in
      let second : drop place s ≡ length_octets (length content) ++ (content ++ drop b s) =
      t.told_there (omega arith) ∙ rw long (ap (λ (l : List ℕ). length_octets n.count ++ l) third) in
      let first : drop at s ≡ tag_octets tag ++ drop place s = tag_octets_lem s at tag small e (omega arith) in
      let parts : tlv tag content ++ drop b s ≡ tag_octets tag ++ (length_octets (length content) ++ (content ++ drop b s)) =
      append_assoc (tag_octets tag) (length_octets (length content) ++ content) (drop b s)
      ∙ ap (λ (l : List ℕ). tag_octets tag ++ l) (append_assoc (length_octets (length content)) content (drop b s)) in
      let octets : n.told ≡ length (length_octets (length content)) = t.told_octets
      ∙ ap (λ (k : ℕ). length (length_octets k)) (sym long) in
      let all : Stands s at tag content (drop b s) (record { from = a; to = b }) = record {
        octets_there = first ∙ ap (λ (l : List ℕ). tag_octets tag ++ l) second ∙ sym parts;
        content_there = refl;
        rest_there = refl;
        from_place = omega arith;
        to_place = omega arith;
        ends_within_lem = fits;
        content_most = omega (arith, t.told_most);
      } in
      subst (λ (u : Stretch). Stands s at tag (take (u.to - u.from) (drop u.from s)) (drop u.to s) u)
      (same_value kept.1) all

  -- where an element is read, its encoding stands there
  pub reads : ((i : ℕ) → get_or s i 0 < 256) → (v : Stretch) → element s at tag ≡ value v
      → Stands s at tag (take (v.to - v.from) (drop v.from s)) (drop v.to s) v
  unfolding element sized
  reads small v e =
      let place = at + tag_width tag in
      let kept = kept_value (eqb (tag_at s at tag) tag) (sized s at place (size_at s place)) _ at v e in
      go (eqb-true (tag_at s at tag) tag kept.0) (size_at s place) refl kept.1
    where
      go : tag_at s at tag ≡ tag → (n : Option Count)
          → size_at s (at + tag_width tag) ≡ n → sized s at (at + tag_width tag) n ≡ value v
          → Stands s at tag (take (v.to - v.from) (drop v.from s)) (drop v.to s) v
      go t (Some n) f h = sized_stands small t n f v h
      go t None f h = absurd (never_value _ at v h)

  -- where an encoding stands, it is read
  pub back : (c rest : List ℕ) → length c ≤ 65535 → drop at s ≡ tlv tag c ++ rest
      → (v : Stretch) × (element s at tag ≡ value v) × Stands s at tag c rest v
  unfolding element sized ends_within tlv head_octets
  back c rest most e =
      let place = at + tag_width tag in
      let l = length_octets (length c) in
      let a = place + length l in
      let b = a + length c in
      let parts : drop at s ≡ tag_octets tag ++ (l ++ (c ++ rest)) =
      e ∙ append_assoc (tag_octets tag) (l ++ c) rest ∙ ap (λ (q : List ℕ). tag_octets tag ++ q) (append_assoc l c rest) in
      let one = octets_tag s at tag (l ++ (c ++ rest)) parts in
      let two = octets_length s place (length c) (c ++ rest) most one.1 in
      let whole : length s - at ≡ length (tlv tag c) + length rest = sym (length-drop at s) ∙ ap length e
      ∙ length-append (tlv tag c) rest in
      let long = length-tlv tag c in
      let fits : b ≤ length s = omega (arith, (length-tag tag).1) in
      let gap : b - a ≡ length c = omega arith in (
        record { from = a; to = b },
        rw (one.0, eq-eqb tag tag refl, two.0, le-leb b (length s) fits),
        record {
          octets_there = e;
          content_there = rw (two.1, gap) (take_at c rest (length c) refl);
          rest_there = sym (drop-drop (length c) a s) ∙ ap (drop (length c)) two.1 ∙ drop_at c rest (length c) refl;
          from_place = omega arith;
          to_place = refl;
          ends_within_lem = fits;
          content_most = most;
        },
      )

-- what a stretch holds, read within the octets up to its end
pub inside : (s : List ℕ) (at tag : ℕ) (c rest : List ℕ) (v : Stretch) → Stands s at tag c rest v
    → drop v.from (take v.to s) ≡ c
inside s at tag c rest v h =
    let k = h.to_place in
    let long : length (take v.to s) ≡ v.to = length-take-le v.to s h.ends_within_lem in
    let parted : take v.to s ≡ take v.from s ++ take (v.to - v.from) (drop v.from s) =
    let sum : v.from + (v.to - v.from) ≡ v.to = omega arith in
    rw sum at (take-add v.from (v.to - v.from) s) in
    let within = h.ends_within_lem in
    ap (drop v.from) parted
    ∙ drop_at (take v.from s) (take (v.to - v.from) (drop v.from s)) v.from (length-take-le v.from s (omega arith))
    ∙ h.content_there

-- no encoding is the beginning of another with its tag
pub prefix_free : (tag : ℕ) (c d r q : List ℕ) → length c ≤ 65535 → length d ≤ 65535 → tlv tag c ++ r ≡ tlv tag d ++ q
    → (c ≡ d) × (r ≡ q)
prefix_free tag c d r q hc hd e =
    let s = tlv tag c ++ r in
    let x = back s 0 tag c r hc refl in
    let y = back s 0 tag d q hd e in
    let same : x.0 ≡ y.0 = same_value (sym x.1 ∙ y.1) in (
      sym x.2.content_there ∙ ap (λ (v : Stretch). take (v.to - v.from) (drop v.from s)) same ∙ y.2.content_there,
      sym x.2.rest_there ∙ ap (λ (v : Stretch). drop v.to s) same ∙ y.2.rest_there,
    )

-- a tag of one octet stands first
pub tag_first : (s : List ℕ) (at tag : ℕ) (c rest : List ℕ) → tag < 256 → drop at s ≡ tlv tag c ++ rest → get_or s at 0 ≡ tag
unfolding tlv tag_octets
tag_first s at tag c rest h e = (first_there s at tag (length_octets (length c) ++ c ++ rest) (e ∙ rw (lt-ltb tag 256 h))).0

-- at most five octets stand before a content
pub most_head : (tag n : ℕ) → head_octets tag n ≤ 5
unfolding head_octets tag_width length_octets
most_head tag n = go (ltb tag 256) (leb n 0x7F) (leb n 255)
  where
    go : (a b c : Bool) → cond a 1 2 + length (cond b (n ∷ []) (cond c (0x81 ∷ n ∷ []) (0x82 ∷ (n / 256) ∷ (n % 256) ∷ []))) ≤ 5
    go true true c = omega arith
    go true false true = omega arith
    go true false false = omega arith
    go false true c = omega arith
    go false false true = omega arith
    go false false false = omega arith

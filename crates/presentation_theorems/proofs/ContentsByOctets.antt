-- The bytes of a presentation tell its contents: no two contents that belong together give the same bytes. So "its text" is one
-- text.
use Prim.Native.Nat.{ℕ, ◌+◌, ◌≤◌}
use mathlib.Core.Path.{◌≡◌, refl, ap, sym, ◌∙◌, subst}
use mathlib.Core.Logic.{inl, inr}
use mathlib.Core.Bool.{Bool, true, false, cond, not, false≢true}
use mathlib.Core.List.{List, [], ◌∷◌, ◌++◌, append-nil}
use native.Mathlib.Omega.{arith}
use borrow.Author.Tests.{not-true}
use lib.ListN.{length, get_or, length-append}
use Rattle.lent.proofs.Bools.{and_both}
use Rattle.tlv.specs.Element.{tlv}
use Rattle.tlv.proofs.Encoded.{length-tlv, some_head, prefix_free, tag_first}
use Rattle.lent.specs.Octets.{stands}
use Rattle.tlv.specs.Tags.{is_group}
use Rattle.object.specs.Object.{sha256_name}
use Rattle.presentation_theorems.specs.Presented.{Signed, Lent, Contents, lds_of, common_inside, common_of, signed_of}
use Rattle.presentation_theorems.specs.Presented.{algorithm_of, strings_of, object_inside}
use Rattle.presentation_theorems.specs.Presented.{object_of, file_of, all_lent, octets_of}
use Rattle.presentation_theorems.specs.Presented.{all_signed, IsIn, is_once, tags_of, Presented}
use Rattle.presentation_theorems.proofs.GroupFiles.{group_below}
use Rattle.presentation_theorems.proofs.GroupOne.{in_tags}
use Rattle.lent.proofs.Lists.{head_same}

-- ---- elements, taken apart

record Same (c d r q : List ℕ) : Type 0 where
  same_content : c ≡ d
  same_rest : r ≡ q
  content_fits : length c ≤ 65535
  rest_fits : length r ≤ 65535

split : (tag : ℕ) (c d r q : List ℕ) → length (tlv tag c ++ r) ≤ 65535 → tlv tag c ++ r ≡ tlv tag d ++ q → Same c d r q
split tag c d r q most e =
    let one = length-append (tlv tag c) r in
    let two : length (tlv tag c ++ r) ≡ length (tlv tag d) + length q = ap length e ∙ length-append (tlv tag d) q in
    let a = length-tlv tag c in
    let b = length-tlv tag d in
    let h = prefix_free tag c d r q (omega arith) (omega arith) e in
    record { same_content = h.0; same_rest = h.1; content_fits = omega arith; rest_fits = omega arith }

split_last : (tag : ℕ) (c d : List ℕ) → length (tlv tag c) ≤ 65535 → tlv tag c ≡ tlv tag d → c ≡ d
split_last tag c d most e =
    let more : (x : List ℕ) → tlv tag x ++ [] ≡ tlv tag x = λ x. append-nil (tlv tag x) in
    let fits : length (tlv tag c ++ []) ≤ 65535 = subst (λ (l : List ℕ). length l ≤ 65535) (sym (more c)) most in
    (split tag c d [] [] fits (more c ∙ e ∙ sym (more d))).same_content

nothing_same : (tag : ℕ) (c r : List ℕ) → [] ≡ tlv tag c ++ r → ⊥
nothing_same tag c r e =
    let n : 0 ≡ length (tlv tag c) + length r = ap length e ∙ length-append (tlv tag c) r in
    omega (arith, length-tlv tag c, some_head tag (length c))

-- ---- EF.COM

lds_tells : (a b : Bool) → lds_of a ≡ lds_of b → a ≡ b
unfolding lds_of
lds_tells true true e = refl
lds_tells false false e = refl
lds_tells true false e = absurd (let n : ◌≡◌ {A = ℕ} 0x38 0x37 = ap (λ (l : List ℕ). get_or l 3 0) e in omega arith)
lds_tells false true e = absurd (let n : ◌≡◌ {A = ℕ} 0x37 0x38 = ap (λ (l : List ℕ). get_or l 3 0) e in omega arith)

common_tells : (m n : Bool) (a b c d : List ℕ) → length (common_inside m a b) ≤ 65535
    → common_inside m a b ≡ common_inside n c d → (m ≡ n) × (a ≡ c) × (b ≡ d)
unfolding common_inside
common_tells m n a b c d most e =
    let x = split 0x5F01 (lds_of m) (lds_of n) (tlv 0x5F36 a ++ tlv 0x5C b) (tlv 0x5F36 c ++ tlv 0x5C d) most e in
    let y = split 0x5F36 a c (tlv 0x5C b) (tlv 0x5C d) x.rest_fits x.same_rest in
    (lds_tells m n x.same_content, y.same_content, split_last 0x5C b d y.rest_fits y.same_rest)

-- ---- the object

algorithm_tells : (a b : Bool) → algorithm_of a ≡ algorithm_of b → a ≡ b
unfolding algorithm_of sha256_name
algorithm_tells true true e = refl
algorithm_tells false false e = refl
algorithm_tells true false e = absurd (let n : ◌≡◌ {A = ℕ} 13 11 = ap length e in omega arith)
algorithm_tells false true e = absurd (let n : ◌≡◌ {A = ℕ} 11 13 = ap length e in omega arith)

signed_tells : (xs ys : List Signed) → length (all_signed xs) ≤ 65535 → all_signed xs ≡ all_signed ys → xs ≡ ys
unfolding all_signed signed_of
signed_tells [] [] most e = refl
signed_tells [] (y ∷ ys) most e = absurd (nothing_same 0x30 (tlv 0x02 (y.number ∷ []) ++ tlv 0x04 y.digest) (all_signed ys) e)
signed_tells (x ∷ xs) [] most e = absurd
    (nothing_same 0x30 (tlv 0x02 (x.number ∷ []) ++ tlv 0x04 x.digest) (all_signed xs) (sym e))
signed_tells (x ∷ xs) (y ∷ ys) most e =
    let a = split 0x30 (tlv 0x02 (x.number ∷ []) ++ tlv 0x04 x.digest) (tlv 0x02 (y.number ∷ []) ++ tlv 0x04 y.digest)
    (all_signed xs) (all_signed ys) most e in
    let b = split 2 (x.number ∷ []) (y.number ∷ []) (tlv 0x04 x.digest) (tlv 0x04 y.digest) a.content_fits
    a.same_content in
    let number : x.number ≡ y.number = head_same x.number y.number [] [] b.same_content in
    let digest : x.digest ≡ y.digest = split_last 4 x.digest y.digest b.rest_fits b.same_rest in
    let rest : xs ≡ ys = signed_tells xs ys a.rest_fits a.same_rest in
    λ i. record { number = number i; digest = digest i } ∷ rest i

object_tells : (m n a b : Bool) (xs ys : List Signed) (l k u v : List ℕ) → length (object_inside m a xs l u) ≤ 65535
    → object_inside m a xs l u ≡ object_inside n b ys k v → (a ≡ b) × (xs ≡ ys)
unfolding object_inside
object_tells m n a b xs ys l k u v most e =
    let p = tlv 0x30 (all_signed xs) ++ strings_of m l u in
    let q = tlv 0x30 (all_signed ys) ++ strings_of n k v in
    let x = split 2 (cond m 1 0 ∷ []) (cond n 1 0 ∷ []) (tlv 0x30 (algorithm_of a) ++ p)
    (tlv 0x30 (algorithm_of b) ++ q) most e in
    let y = split 0x30 (algorithm_of a) (algorithm_of b) p q x.rest_fits x.same_rest in
    let z = split 0x30 (all_signed xs) (all_signed ys) (strings_of m l u) (strings_of n k v) y.rest_fits y.same_rest in
    (algorithm_tells a b y.same_content, signed_tells xs ys z.content_fits z.same_content)

-- ---- the files

lent_tells : (xs ys : List Lent) → ((f : Lent) → IsIn f xs → is_group f.tag ≡ true)
    → ((f : Lent) → IsIn f ys → is_group f.tag ≡ true)
    → length (all_lent xs) ≤ 65535 → all_lent xs ≡ all_lent ys → xs ≡ ys
unfolding all_lent file_of IsIn
lent_tells [] [] g h most e = refl
lent_tells [] (y ∷ ys) g h most e = absurd (nothing_same y.tag y.content (all_lent ys) e)
lent_tells (x ∷ xs) [] g h most e = absurd (nothing_same x.tag x.content (all_lent xs) (sym e))
lent_tells (x ∷ xs) (y ∷ ys) g h most e =
    let s = tlv x.tag x.content ++ all_lent xs in
    let one : get_or s 0 0 ≡ x.tag = tag_first s 0 x.tag x.content (all_lent xs)
    (group_below x.tag (g x (inl refl))) refl in
    let two : get_or s 0 0 ≡ y.tag = tag_first s 0 y.tag y.content (all_lent ys) (group_below y.tag (h y (inl refl))) e in
    let tag : x.tag ≡ y.tag = sym one ∙ two in
    let a = split x.tag x.content y.content (all_lent xs) (all_lent ys) most
    (e ∙ ap (λ (t : ℕ). tlv t y.content ++ all_lent ys) (sym tag)) in
    let content : x.content ≡ y.content = a.same_content in
    let rest : xs ≡ ys = lent_tells xs ys (λ f m. g f (inr m)) (λ f m. h f (inr m)) a.rest_fits a.same_rest in
    λ i. record { tag = tag i; content = content i } ∷ rest i

-- where no tag is lent twice, a tag tells its content
content_tells : (n : ℕ) (a b : List ℕ) (ls : List Lent) → is_once (tags_of ls) ≡ true → IsIn (record { tag = n; content = a }) ls
    → IsIn (record { tag = n; content = b }) ls → a ≡ b
unfolding IsIn is_once tags_of
content_tells n a b [] once k l = absurd k
content_tells n a b (x ∷ ls) once (inl k) (inl l) = ap (λ (f : Lent). f.content) (k ∙ sym l)
content_tells n a b (x ∷ ls) once (inl k) (inr m) =
    let c = and_both (not (stands x.tag (tags_of ls))) (is_once (tags_of ls)) once in
    absurd (false≢true (sym (not-true (stands x.tag (tags_of ls)) c.0) ∙ ap (λ (f : Lent). stands f.tag (tags_of ls))
    (sym k) ∙ in_tags (record { tag = n; content = b }) ls m))
content_tells n a b (x ∷ ls) once (inr m) (inl l) =
    let c = and_both (not (stands x.tag (tags_of ls))) (is_once (tags_of ls)) once in
    absurd (false≢true (sym (not-true (stands x.tag (tags_of ls)) c.0) ∙ ap (λ (f : Lent). stands f.tag (tags_of ls))
    (sym l) ∙ in_tags (record { tag = n; content = a }) ls m))
content_tells n a b (x ∷ ls) once (inr m) (inr o) =
    content_tells n a b ls (and_both (not (stands x.tag (tags_of ls))) (is_once (tags_of ls)) once).1 m o

-- a content is no longer than all files
lent_fits : (f : Lent) (ls : List Lent) → length (all_lent ls) ≤ 65535 → IsIn f ls → length f.content ≤ 65535
unfolding all_lent file_of IsIn
lent_fits f [] most k = absurd k
lent_fits f (x ∷ ls) most (inl k) =
    let n = length-append (tlv x.tag x.content) (all_lent ls) in
    let m = length-tlv x.tag x.content in
    subst (λ (y : Lent). length y.content ≤ 65535) (sym k) (omega arith)
lent_fits f (x ∷ ls) most (inr k) = lent_fits f ls
    (let n = length-append (tlv x.tag x.content) (all_lent ls) in omega arith) k

-- ---- all of it

pub octets_tell : (p q : Contents) → Presented p → Presented q → octets_of p ≡ octets_of q → p ≡ q
unfolding octets_of common_of object_of
octets_tell p q k l e =
    let c = common_inside p.newer p.digits p.tags in
    let d = object_inside p.newer p.followed p.entries (lds_of p.newer) p.digits in
    let g = object_inside q.newer q.followed q.entries (lds_of q.newer) q.digits in
    let a = split 0x60 c (common_inside q.newer q.digits q.tags) (tlv 0x30 d ++ all_lent p.lent)
    (tlv 0x30 g ++ all_lent q.lent) k.size e in
    let b = split 0x30 d g (all_lent p.lent) (all_lent q.lent) a.rest_fits a.same_rest in
    let x = common_tells p.newer q.newer p.digits p.tags q.digits q.tags a.content_fits a.same_content in
    let y = object_tells p.newer q.newer p.followed q.followed p.entries q.entries (lds_of p.newer)
    (lds_of q.newer) p.digits q.digits b.content_fits b.same_content in
    let z = lent_tells p.lent q.lent (λ f m. (k.file_kept f m).of_group) (λ f m. (l.file_kept f m).of_group) b.rest_fits
    b.same_rest in
    let one = subst (IsIn (record { tag = 0x61; content = tlv 0x5F1F p.text })) z k.group_one in
    let held : tlv 0x5F1F p.text
    ≡ tlv 0x5F1F q.text = content_tells 0x61 (tlv 0x5F1F p.text) (tlv 0x5F1F q.text) q.lent l.lent_once one
    l.group_one in
    let t : p.text ≡ q.text = split_last 0x5F1F p.text q.text
    (lent_fits (record { tag = 0x61; content = tlv 0x5F1F p.text }) p.lent b.rest_fits k.group_one) held in
    λ i. record {
      newer = x.0 i;
      tags = x.2 i;
      digits = x.1 i;
      followed = y.0 i;
      entries = y.1 i;
      lent = z i;
      text = t i;
    }

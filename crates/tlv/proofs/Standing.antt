-- An element that stands at a place: read there, where its value and it begin and end, how many octets it has.
use Prim.Native.Nat.{ℕ, ◌+◌, ◌-◌, ◌≤◌, ◌<◌}
use mathlib.Core.Path.{◌≡◌, ap, sym, ◌∙◌}
use mathlib.Core.Bool.{true}
use mathlib.Core.List.{List, [], ◌∷◌, ◌++◌, append-nil}
use native.Mathlib.Nat.{add-zero}
use native.Mathlib.Omega.{arith}
use borrow.Author.Tests.{eqb-true, eq-eqb}
use lib.ListN.{length, take, drop, get_or, length-append, length-drop, take-append-drop}
use lib.Seq.{take_at, drop-drop, get_or-drop}
use Rattle.tlv.specs.declared.Stretch.{Stretch}
use Rattle.tlv.specs.Read.{value}
use Rattle.tlv.specs.Element.{tlv, element}
use Rattle.tlv.specs.Cut.{cut, has_octets}
use Rattle.tlv.proofs.Encoded.{Stands, back, length-tlv, some_head}

module _ (s : List ℕ) (at tag : ℕ) where
  pub element_read : length s ≤ 65535 → (c rest : List ℕ) → drop at s ≡ tlv tag c ++ rest
      → (v : Stretch) × (element s at tag ≡ value v) × Stands s at tag c rest v
  element_read most c rest e =
      let whole : length s - at ≡ length (tlv tag c) + length rest = sym (length-drop at s) ∙ ap length e
      ∙ length-append (tlv tag c) rest in
      let long = length-tlv tag c in
      back s at tag c rest (omega arith) e

  -- the same, where nothing follows
  pub last_read : length s ≤ 65535 → (c : List ℕ) → drop at s ≡ tlv tag c
      → (v : Stretch) × (element s at tag ≡ value v) × Stands s at tag c [] v
  last_read most c e = element_read most c [] (e ∙ sym (append-nil (tlv tag c)))

module _ (s : List ℕ) (at tag : ℕ) (c rest : List ℕ) (v : Stretch) (h : Stands s at tag c rest v) where
  pub cut_there : cut s v ≡ c
  unfolding cut
  cut_there = h.content_there

  -- a value of so many octets
  pub has_octets_lem : (n : ℕ) → has_octets n v ≡ true → length c ≡ n
  unfolding has_octets
  has_octets_lem n e = let k = h.to_place in let f : v.from + n ≡ v.to = eqb-true (v.from + n) v.to e in omega arith

  pub octets_had : (n : ℕ) → length c ≡ n → has_octets n v ≡ true
  unfolding has_octets
  octets_had n e = let k = h.to_place in eq-eqb (v.from + n) v.to (omega arith)

  pub place_behind : (at < v.from) × (v.from ≤ v.to) × (v.to ≤ length s)
  place_behind = let a = h.from_place in let b = h.to_place in let d = h.ends_within_lem in
      (omega (arith, some_head tag (length c)), omega arith, d)

  -- a whole element, from its tag to its end
  pub whole_there : take (v.to - at) (drop at s) ≡ tlv tag c
  whole_there =
      let a = h.from_place in
      let b = h.to_place in
      let long = length-tlv tag c in
      ap (take (v.to - at)) h.octets_there ∙ take_at (tlv tag c) rest (v.to - at) (omega arith)

  pub to_behind : v.to ≡ at + length (tlv tag c)
  to_behind = let a = h.from_place in let b = h.to_place in let long = length-tlv tag c in omega arith

  -- from where the value begins
  pub from_there : drop v.from s ≡ c ++ rest
  from_there =
      let a = h.to_place in
      let sum : v.from + (v.to - v.from) ≡ v.to = omega arith in
      sym (take-append-drop (v.to - v.from) (drop v.from s))
      ∙ rw (drop-drop (v.to - v.from) v.from s, sum, h.content_there, h.rest_there)

  -- a value of one octet
  pub one_octet : length c ≡ 1 → c ≡ get_or s v.from 0 ∷ []
  one_octet one = go c one from_there
    where
      first : (x : ℕ) (q : List ℕ) → drop v.from s ≡ x ∷ q → get_or s v.from 0 ≡ x
      first x q e = ap (λ (n : ℕ). get_or s n 0) (sym (add-zero v.from)) ∙ sym (get_or-drop v.from s 0 0)
          ∙ ap (λ (l : List ℕ). get_or l 0 0) e

      go : (l : List ℕ) → length l ≡ 1 → drop v.from s ≡ l ++ rest → l ≡ get_or s v.from 0 ∷ []
      go [] e f = absurd (omega arith)
      go (x ∷ []) e f = ap (λ (n : ℕ). n ∷ []) (sym (first x rest f))
      go (x ∷ (y ∷ l)) e f = absurd (omega arith)

-- an element whose content is known, and what follows it
pub followed_by : (tag : ℕ) (l c d r q : List ℕ) → l ≡ tlv tag c ++ r → c ≡ d → r ≡ q → l ≡ tlv tag d ++ q
followed_by tag l c d r q e f g = e ∙ ap (λ (x : List ℕ). tlv tag x ++ r) f ∙ ap (λ (x : List ℕ). tlv tag d ++ x) g

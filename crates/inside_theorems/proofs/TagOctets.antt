-- A tag and its octets tell each other.
use Prim.Native.Nat.{ℕ, ◌+◌, ◌*◌, ◌/◌, ◌%◌, ◌≤◌, ◌<◌}
use mathlib.Core.Path.{◌≡◌, refl, ◌∙◌}
use mathlib.Core.Bool.{Bool, true, false, cond, not, ◌&&◌, ◌||◌}
use mathlib.Core.List.{List, [], ◌∷◌, ◌++◌, append_assoc}
use native.Mathlib.Nat.{div-add-mod'}
use native.Mathlib.Omega.{arith}
use borrow.Author.Tests.{eqb-true, lt-ltb, le-ltb}
use lib.Dec.{ltb}
use lib.ListN.{length, get_or, drop}
use Rattle.lent.proofs.Bools.{and_both, not_true}
use Rattle.tlv.specs.Element.{tag_octets, length_octets, tlv}
use Rattle.tlv.proofs.Encoded.{first_there, two_high, two_low}
use Rattle.tree.specs.Tag.{has_second, is_second, tag_here, is_tag_here, first_octet, is_tag}

-- ---- from the octets

-- what a right tag's octets say where they stand
pub record TagThere (s : List ℕ) (at tag : ℕ) : Type 0 where
  pub same_tag : tag_here s at ≡ tag
  pub right : is_tag_here s at ≡ true
  pub same_first : get_or s at 0 ≡ first_octet tag

module _ (s : List ℕ) (at tag : ℕ) where
  one_there : (q : List ℕ) → not (has_second tag) ≡ true → ltb tag 256 ≡ true → drop at s ≡ tag ∷ q → TagThere s at tag
  unfolding tag_here is_tag_here first_octet
  one_there q h k e =
      let a = (first_there s at tag q e).0 in
      let b = not_true (has_second tag) h in
      record { same_tag = rw (a, b); right = rw (a, b); same_first = rw (a, k) }

  two_there : (q : List ℕ) → has_second (tag / 256) ≡ true → is_second (tag % 256) ≡ true → ltb tag 256 ≡ false
      → drop at s ≡ (tag / 256) ∷ (tag % 256) ∷ q → TagThere s at tag
  unfolding tag_here is_tag_here first_octet
  two_there q h i k e =
      let one = first_there s at (tag / 256) ((tag % 256) ∷ q) e in
      let two = (first_there s (at + 1) (tag % 256) q one.1).0 in
      record {
        same_tag = rw (one.0, two, h) (div-add-mod' tag 256);
        right = rw (one.0, two, h, i);
        same_first = rw (one.0, k);
      }

  pub tag_there : (q : List ℕ) → is_tag tag ≡ true → drop at s ≡ tag_octets tag ++ q → TagThere s at tag
  unfolding is_tag tag_octets
  tag_there q h e = go (ltb tag 256) refl h e
    where
      go : (b : Bool) → ltb tag 256 ≡ b
          → cond b (not (has_second tag)) (ltb tag 65536 && (has_second (tag / 256) && is_second (tag % 256))) ≡ true
          → drop at s ≡ cond b (tag ∷ []) ((tag / 256) ∷ (tag % 256) ∷ []) ++ q → TagThere s at tag
      go true k f g = one_there q f k g
      go false k f g =
          let two = (and_both (ltb tag 65536) _ f).1 in
          let both = and_both (has_second (tag / 256)) (is_second (tag % 256)) two in
          two_there q both.0 both.1 k g

  -- the same where a whole element stands
  pub tlv_there : (c rest : List ℕ) → is_tag tag ≡ true → drop at s ≡ tlv tag c ++ rest → TagThere s at tag
  unfolding tlv
  tlv_there c rest h e =
      tag_there ((length_octets (length c) ++ c) ++ rest) h
      (e ∙ append_assoc (tag_octets tag) (length_octets (length c) ++ c) rest)

-- ---- and back

second_some : (first : ℕ) → has_second first ≡ true → 1 ≤ first
unfolding has_second
second_some first e = let k = eqb-true (first % 32) 31 e in omega arith

module _ (s : List ℕ) (small : (i : ℕ) → get_or s i 0 < 256) (at : ℕ) where
  abbrev a : ℕ
  a = get_or s at 0

  abbrev b : ℕ
  b = get_or s (at + 1) 0

  -- a right tag that stands at a place is one, with its first octet
  pub tag_here_lem : is_tag_here s at ≡ true → (is_tag (tag_here s at) ≡ true) × (first_octet (tag_here s at) ≡ get_or s at 0)
  unfolding is_tag_here is_tag first_octet tag_here
  tag_here_lem h = go (has_second a) refl h
    where
      go : (x : Bool) → has_second a ≡ x → not x || is_second b ≡ true
          → let t = cond x (a * 256 + b) a in
          (cond (ltb t 256) (not (has_second t)) (ltb t 65536 && (has_second (t / 256) && is_second (t % 256))) ≡ true)
          × (cond (ltb t 256) t (t / 256) ≡ a)
      go false e q = (rw (lt-ltb a 256 (small at), e), rw (lt-ltb a 256 (small at)))
      go true e q =
          let some = second_some a e in
          let one = small at in
          let two = small (at + 1) in (
            rw (
              le-ltb (a * 256 + b) 256 (omega arith),
              lt-ltb (a * 256 + b) 65536 (omega arith),
              two_high a b two,
              two_low a b two,
              e,
              q,
            ),
            rw (le-ltb (a * 256 + b) 256 (omega arith), two_high a b two),
          )

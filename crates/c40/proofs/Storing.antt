-- Storing the characters: what is read from a place on, stored behind n others, gives the same as the whole. And what was
-- counted decides what is stored.
use Prim.Native.Nat.{ℕ, ◌+◌, ◌≤◌, ◌<◌}
use mathlib.Core.Path.{◌≡◌, refl, sym, ap, ◌∙◌}
use mathlib.Core.Bool.{Bool, true, false, cond, false≢true}
use mathlib.Core.List.{List, [], ◌∷◌, ◌++◌}
use native.Mathlib.Omega.{arith}
use borrow.Author.Tests.{ne_eqb, eqb-true, leb-false}
use lib.Dec.{eqb, leb}
use lib.ListN.{length, get_or}
use lib.Seq.{sets}
use Rattle.lent.proofs.Lists.{sets_append}
use Rattle.std.specs.Prelude.{Some, None}
use Rattle.std.specs.Option.{option_eq}
use Rattle.c40.specs.Reader.{Reading, characters, no_image, number_of, values_of, three, two, one}
use Rattle.c40.specs.Reader.{read_c40}
use Rattle.c40.specs.Field.{is_of, exactly}
use Rattle.c40.specs.Inner.Left.{answered, text_of}
use Rattle.c40.proofs.Imaging.{whole_stored}
use Rattle.c40.proofs.Pairs.{Pairs, none, of_one, of_two, of_three, pairs_read, read_pairs}

-- what is left is read pair by pair
text_pairs : (s : List ℕ) → 1 ≤ length (text_of (read_c40 s)) → Pairs s (text_of (read_c40 s))
unfolding text_of
text_pairs s h = go (read_c40 s) refl h
  where
    go : (r : Reading) → read_c40 s ≡ r → 1 ≤ length (text_of r) → Pairs s (text_of r)
    go (characters t) q k = read_pairs s t q
    go no_image q k = absurd (omega arith)

three_left : {x y : ℕ} {s t : List ℕ} → Pairs (x ∷ y ∷ s) t → 3 ≤ length t
    → t ≡ three (values_of (number_of x y)) ++ text_of (read_c40 s)
unfolding one two text_of
three_left (of_one x y p q r) h = absurd (omega arith)
three_left (of_two x y p q) h = absurd (omega arith)
three_left (of_three x y p more) h = rw (pairs_read more)

two_left : {s t : List ℕ} → Pairs s t → length t ≡ 2 → t ≡ two (values_of (number_of (get_or s 0 0) (get_or s 1 0)))
unfolding one two three
two_left none h = absurd (omega arith)
two_left (of_one x y p q r) h = absurd (omega arith)
two_left (of_two x y p q) h = refl
two_left (of_three x y p more) h = absurd (omega arith)

one_left : {s t : List ℕ} → Pairs s t → length t ≡ 1 → t ≡ one (get_or s 1 0)
unfolding one two three
one_left none h = absurd (omega arith)
one_left (of_one x y p q r) h = refl
one_left (of_two x y p q) h = absurd (omega arith)
one_left (of_three x y p more) h = absurd (omega arith)

pub two_from : (s : List ℕ) → length (text_of (read_c40 s)) ≡ 2
    → text_of (read_c40 s) ≡ two (values_of (number_of (get_or s 0 0) (get_or s 1 0)))
two_from s h = two_left (text_pairs s (omega arith)) h

pub one_from : (s : List ℕ) → length (text_of (read_c40 s)) ≡ 1 → text_of (read_c40 s) ≡ one (get_or s 1 0)
one_from s h = one_left (text_pairs s (omega arith)) h

-- half a pair is none
pub none_from : (s : List ℕ) → length s < 2 → text_of (read_c40 s) ≡ []
unfolding text_of read_c40
none_from [] h = refl
none_from (x ∷ []) h = refl
none_from (x ∷ y ∷ s) h = absurd (omega arith)

-- where three are left a pair is
pub pair_there : (s : List ℕ) → 3 ≤ length (text_of (read_c40 s)) → 2 ≤ length s
unfolding text_of read_c40
pair_there [] h = absurd (omega arith)
pair_there (x ∷ []) h = absurd (omega arith)
pair_there (x ∷ y ∷ s) h = omega arith

-- three more are stored
three_from : (x y : ℕ) (u : List ℕ) → 3 ≤ length (text_of (read_c40 (x ∷ y ∷ u)))
    → text_of (read_c40 (x ∷ y ∷ u)) ≡ three (values_of (number_of x y)) ++ text_of (read_c40 u)
three_from x y u h = three_left (text_pairs (x ∷ y ∷ u) (omega arith)) h

module _ {s u : List ℕ} {x y : ℕ} (is : s ≡ x ∷ y ∷ u) (there : 3 ≤ length (text_of (read_c40 s))) where
  text_three : text_of (read_c40 s) ≡ three (values_of (number_of x y)) ++ text_of (read_c40 u)
  text_three = rw is (three_from x y u (rw is at there))

  pub three_shorter : length (text_of (read_c40 s)) ≡ 3 + length (text_of (read_c40 u))
  unfolding three
  three_shorter =
      let t = text_of (read_c40 u) in
      let e : length (three (values_of (number_of x y)) ++ t) ≡ 3 + length t = omega arith in
      ap length text_three ∙ e

  pub three_written : (out whole : List ℕ) (n : ℕ) → sets out n (text_of (read_c40 s)) ≡ whole
      → sets (sets out n (three (values_of (number_of x y)))) (n + 3) (text_of (read_c40 u)) ≡ whole
  unfolding three
  three_written out whole n h =
      sets_append out n (three (values_of (number_of x y))) (text_of (read_c40 u)) ∙ ap (sets out n) (sym text_three) ∙ h

-- all of it is as long as the range
pub text_stored : (s out : List ℕ) → length (text_of (read_c40 s)) ≡ length out
    → sets out 0 (text_of (read_c40 s)) ≡ text_of (read_c40 s)
text_stored s out h = whole_stored out (text_of (read_c40 s)) (sym h)

-- what was counted decides whether it is a field of so many characters,
pub decided : (r : Reading) (m : ℕ) → option_eq eqb (answered r m) (Some m) ≡ is_of m r
unfolding is_of answered
decided no_image m = refl
decided (characters t) m = go (leb (length t) m) refl
  where
    go : (b : Bool) → leb (length t) m ≡ b → option_eq eqb (cond b (Some (length t)) None) (Some m) ≡ eqb (length t) m
    go true p = refl
    go false p = let far = leb-false (length t) m p in sym (ne_eqb (length t) m (λ q. omega arith))

-- and what is written
pub field_written : (r : Reading) (m : ℕ) → is_of m r ≡ true → (length (text_of r) ≡ m) × (text_of r ≡ exactly m r)
unfolding is_of exactly text_of
field_written no_image m e = absurd (false≢true e)
field_written (characters t) m e = (eqb-true (length t) m e, rw e)

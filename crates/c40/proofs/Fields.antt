-- A field of so many characters is read at a place exactly where the image of a text of that length stands.
use Prim.Native.Nat.{ℕ, suc, ◌+◌, ◌*◌, ◌/◌, ◌≤◌, ◌<◌}
use mathlib.Core.Path.{◌≡◌, refl, ap, ◌∙◌}
use mathlib.Core.Bool.{true, false≢true}
use mathlib.Core.List.{List}
use native.Mathlib.Nat.{add-div_right}
use native.Mathlib.Omega.{arith}
use borrow.Author.Tests.{eqb-true, eq-eqb}
use lib.ListN.{length, take, drop, length-take, length-drop}
use Rattle.zone.specs.Alphabet.{every}
use Rattle.zone.specs.Octets.{is_octet, AreOctets}
use Rattle.zone.proofs.Every.{every_take, every_drop}
use Rattle.c40.specs.Values.{is_c40}
use Rattle.c40.specs.Image.{image_of}
use Rattle.c40.specs.Reader.{Reading, characters, no_image, three, two, one, read_c40}
use Rattle.c40.specs.Field.{octets_for, is_of, exactly, image_at, is_field, field_at}
use Rattle.c40.proofs.Images.{read_c40_lem, reads_exactly, image_read}
use Rattle.c40.proofs.Pairs.{Pairs, none, of_one, of_two, of_three, read_pairs}

-- the text's image stands there
pub record FieldStands (s : List ℕ) (at m : ℕ) (t : List ℕ) : Type 0 where
  pub field_length : length t ≡ m
  pub field_c40 : every is_c40 t ≡ true
  pub field_image : take (octets_for m) (drop at s) ≡ image_of t

-- what is read has two octets for each three characters that are begun
pairs_length : {s t : List ℕ} → Pairs s t → length s ≡ 2 * ((length t + 2) / 3)
unfolding one two three
pairs_length none = refl
pairs_length (of_one x y p q r) = refl
pairs_length (of_two x y p q) = refl
pairs_length (of_three x y {s} {t} p rest) =
    let n : suc (suc (suc (length t))) + 2 ≡ length t + 2 + 3 = omega arith in
    let more = add-div_right (length t + 2) {k = 3} (omega arith) in
    rw (n, more) (omega (arith, pairs_length rest))

module _ (s : List ℕ) (at m : ℕ) where
  -- a field ends within what holds it
  pub field_within : is_field s at m ≡ true → 0 < m → at + octets_for m ≤ length s
  unfolding is_field is_of image_at octets_for
  field_within e some = go (image_at s at m) refl e
    where
      go : (r : Reading) → image_at s at m ≡ r → is_of m r ≡ true → at + octets_for m ≤ length s
      go (characters t) p q =
          let same : length t ≡ m = eqb-true (length t) m q in
          let long = pairs_length (read_pairs (take (octets_for m) (drop at s)) t p) in
          let two : length (take (octets_for m) (drop at s)) ≡ octets_for m = long ∙ ap octets_for same in
          let taken = length-take (octets_for m) (drop at s) in
          let left = length-drop at s in
          omega (arith, two, taken, left, some)
      go no_image p q = absurd (false≢true q)

  -- its characters are C40's, whatever it is read from
  pub field_characters : is_field s at m ≡ true → every is_c40 (field_at s at m) ≡ true
  unfolding is_field field_at is_of exactly image_at
  field_characters e = go (image_at s at m) refl e
    where
      go : (r : Reading) → image_at s at m ≡ r → is_of m r ≡ true → every is_c40 (exactly m r) ≡ true
      go (characters t) p q = rw q (read_c40_lem (take (octets_for m) (drop at s)) t p)
      go no_image p q = absurd (false≢true q)

  pub field_read : AreOctets s → is_field s at m ≡ true → FieldStands s at m (field_at s at m)
  unfolding is_field field_at is_of exactly image_at
  field_read small e = go (image_at s at m) refl e
    where
      octets : AreOctets (take (octets_for m) (drop at s))
      octets = every_take is_octet (octets_for m) (drop at s) (every_drop is_octet at s small)

      go : (r : Reading) → image_at s at m ≡ r → is_of m r ≡ true → FieldStands s at m (exactly m r)
      go (characters t) p q =
          let w = (reads_exactly (take (octets_for m) (drop at s)) t octets).0 p in
          rw q (record { field_length = eqb-true (length t) m q; field_c40 = w.0; field_image = cc })
      go no_image p q = absurd (false≢true q)

  pub read_field : (t : List ℕ) → FieldStands s at m t → (is_field s at m ≡ true) × (field_at s at m ≡ t)
  unfolding is_field field_at is_of exactly image_at
  read_field t h =
      let e : image_at s at m ≡ characters t = ap read_c40 h.field_image ∙ image_read t h.field_c40 in
      let same = eq-eqb (length t) m h.field_length in
      (rw (e, same), rw (e, same))

-- The signer and the certificate reference are read exactly where their image stands.
use Prim.Native.Nat.{ℕ, ◌+◌, ◌*◌, ◌/◌, ◌%◌, ◌≤◌}
use mathlib.Core.Path.{◌≡◌, refl, ap, sym, ◌∙◌}
use mathlib.Core.Logic.{◌⊎◌, inl, inr}
use mathlib.Core.Bool.{Bool, true, false, cond, ◌&&◌, and-true, false≢true}
use mathlib.Core.List.{List, [], ◌∷◌, ◌++◌, append_assoc}
use native.Mathlib.Omega.{arith}
use lib.Dec.{eqb}
use lib.ListN.{length, take, drop, get_or, length-append, length-drop, take-append-drop}
use lib.Seq.{length-take-le, drop_at, get_or-take}
use Rattle.lent.proofs.Bools.{and_both, both_and, or_either}
use Rattle.lent.proofs.Lists.{pair_at_lem}
use Rattle.zone.specs.Alphabet.{is_digit, is_letter, every}
use Rattle.zone.specs.Octets.{AreOctets}
use Rattle.zone.proofs.Every.{every_append, every_take, every_wider}
use Rattle.c40.specs.Values.{is_c40}
use Rattle.c40.specs.Image.{image_of}
use Rattle.c40.specs.Field.{octets_for, is_field, field_at}
use Rattle.c40.proofs.Coding.{digit_c40, letter_c40}
use Rattle.c40.proofs.Images.{images_joined, image_length}
use Rattle.c40.proofs.Exactly.{no_field}
use Rattle.c40.proofs.Fields.{FieldStands, field_read, read_field}
use Rattle.seal_fields.specs.Hex.{is_hex, hex_of}
use Rattle.seal_header.specs.Reference.{version, more_by, reference_length, width}
use Rattle.seal_header.specs.Reference.{reference, is_letter_or_digit, is_reference, before}
use Rattle.seal_fields.specs.Hex.{hex_digit, hexadecimal}
use Rattle.seal_header.specs.Head.{Head}
use Rattle.seal_theorems.specs.Sealed.{count_of, reference_of, ReferenceKept}
use Rattle.seal_fields.proofs.Short.{of_four}
use Rattle.seal_theorems.proofs.Places.{then_there}
use Rattle.seal_fields.proofs.Hexadecimal.{two_said, said_two, hex_c40}

-- ---- four characters and then others

reference_so : (r a : List ℕ) → length a ≡ 4
    → is_reference (a ++ r) ≡ every is_letter (take 2 a) && (every is_letter_or_digit (drop 2 a) && every is_hex r)
unfolding is_reference every
reference_so r = of_four
    (λ l. is_reference (l ++ r) ≡ every is_letter (take 2 l) && (every is_letter_or_digit (drop 2 l) && every is_hex r))
    (λ a b c d. rw (and-true (is_letter b), and-true (is_letter_or_digit d)))

more_said : (e f : ℕ) (a : List ℕ) → length a ≡ 4 → more_by (a ++ (e ∷ f ∷ [])) ≡ hex_of e * 16 + hex_of f
unfolding more_by
more_said e f = of_four (λ l. more_by (l ++ (e ∷ f ∷ [])) ≡ hex_of e * 16 + hex_of f) (λ a b c d. refl)

either_c40 : (c : ℕ) → is_letter_or_digit c ≡ true → is_c40 c ≡ true
unfolding is_letter_or_digit
either_c40 c e = go (or_either (is_letter c) (is_digit c) e)
  where
    go : (is_letter c ≡ true) ⊎ (is_digit c ≡ true) → is_c40 c ≡ true
    go (inl h) = letter_c40 c h
    go (inr h) = digit_c40 c h

-- the first six characters are in the first four octets
six_first : (s : List ℕ) (at : ℕ) (t u r : List ℕ) → length t ≡ 6 → drop at s ≡ image_of (t ++ u) ++ r
    → take 4 (drop at s) ≡ image_of t
six_first s at t u r h e =
    let four : length (image_of t) ≡ 4 = image_length t ∙ rw h in
    (then_there s at 4 (image_of t) (image_of u ++ r) four
    (e ∙ ap (λ (l : List ℕ). l ++ r) (images_joined 2 t u h) ∙ append_assoc (image_of t) (image_of u) r)).0

-- ---- from what is read to its image

-- signer and certificate reference, as they are read
unfoldable pub signer_at : List ℕ → List ℕ
signer_at s = take 4 (reference s)

unfoldable pub certificate_at : List ℕ → List ℕ
certificate_at s = drop (before s) (reference s)

-- what a head has that is read so
pub record Referred (h : Head) (s : List ℕ) : Type 0 where
  pub said_so : reference_of h ≡ reference s
  pub referred_kept : ReferenceKept h

-- there are six characters at least
pub least : (s : List ℕ) → 6 ≤ reference_length s
unfolding reference_length
least s = go (eqb (version s) 0x02)
  where
    go : (b : Bool) → 6 ≤ cond b 9 (6 + more_by (field_at s 4 6))
    go true = omega arith
    go false = omega arith

-- no characters are no reference
pub reference_field : (s : List ℕ) → is_reference (reference s) ≡ true → is_field s 4 (reference_length s) ≡ true
unfolding reference is_reference is_letter
reference_field s kept = go (is_field s 4 (reference_length s)) refl
  where
    go : (b : Bool) → is_field s 4 (reference_length s) ≡ b → b ≡ true
    go true p = refl
    go false p = absurd (false≢true (rw (no_field s 4 (reference_length s) p) at kept))

module _ (s : List ℕ) (small : AreOctets s) (kept : is_reference (reference s) ≡ true) where
  pub reference_stands : FieldStands s 4 (reference_length s) (reference s)
  unfolding reference
  reference_stands = field_read s 4 (reference_length s) small (reference_field s kept)

  long : 6 ≤ length (reference s)
  long = omega (arith, least s, reference_stands.field_length)

  signer_four : length (signer_at s) ≡ 4
  unfolding signer_at
  signer_four = length-take-le 4 (reference s) (omega (arith, long))

  parts : (every is_letter (take 2 (signer_at s)) ≡ true)
      × ((every is_letter_or_digit (drop 2 (signer_at s)) ≡ true) × (every is_hex (drop 4 (reference s)) ≡ true))
  unfolding signer_at
  parts =
      let a = signer_at s in
      let whole : a ++ drop 4 (reference s) ≡ reference s = take-append-drop 4 (reference s) in
      let e = sym (reference_so (drop 4 (reference s)) a signer_four) ∙ ap is_reference whole ∙ kept in
      let p = and_both (every is_letter (take 2 a))
      (every is_letter_or_digit (drop 2 a) && every is_hex (drop 4 (reference s))) e in
      (p.0, and_both (every is_letter_or_digit (drop 2 a)) (every is_hex (drop 4 (reference s))) p.1)

  module _ (h : Head) (v : h.version ≡ version s) (a : h.signer ≡ signer_at s) (c : h.certificate ≡ certificate_at s) where
    -- the signer's rules are kept, whatever the version
    kept_by : every is_hex h.certificate ≡ true → (h.version ≡ 0x02 → length h.certificate ≡ 5)
        → (h.version ≡ 0x03 → length h.certificate ≤ 255)
        → ReferenceKept h
    kept_by hex five most = record {
      signer_length = rw a signer_four;
      signer_letters = rw a parts.0;
      signer_others = rw a parts.1.0;
      certificate_hex = hex;
      certificate_five = five;
      certificate_most = most;
    }

    referred_two : version s ≡ 0x02 → Referred h s
    unfolding reference_of count_of signer_at certificate_at before reference_length
    referred_two e =
        let cert : h.certificate ≡ drop 4 (reference s) = c ∙ rw e in
        let nine : length (reference s) ≡ 9 = reference_stands.field_length ∙ rw e in
        record {
          said_so = rw (v, e, a, cert) (take-append-drop 4 (reference s));
          referred_kept = kept_by (rw cert parts.1.1) (λ _. rw (cert, length-drop) (omega arith))
              (λ f. absurd (omega (arith, sym f ∙ v ∙ e)));
        }

    referred_three : version s ≡ 0x03 → Referred h s
    unfolding reference_of count_of signer_at certificate_at before reference_length every more_by octets_for
    referred_three e =
        let r = reference s in
        let x = get_or r 4 0 in
        let y = get_or r 5 0 in
        let n = more_by (field_at s 4 6) in
        let cert : h.certificate ≡ drop 6 r = c ∙ rw e in
        let count : length r ≡ 6 + n = reference_stands.field_length ∙ rw e in
        let wide : length (take 6 r) ≡ 6 = length-take-le 6 r long in
        let joined : drop 4 s ≡ image_of r ++ drop (octets_for (reference_length s)) (drop 4 s) =
        sym (take-append-drop (octets_for (reference_length s)) (drop 4 s)) ∙ rw reference_stands.field_image in
        let six : field_at s 4 6 ≡ take 6 r = (read_field s 4 6 (take 6 r) (record {
          field_length = wide;
          field_c40 = every_take is_c40 6 r reference_stands.field_c40;
          field_image = six_first s 4 (take 6 r) (drop 6 r) (drop (octets_for (reference_length s)) (drop 4 s)) wide
              (rw (take-append-drop 6 r) joined);
        })).1 in
        let behind : drop 4 r ≡ x ∷ y ∷ drop 6 r = pair_at_lem r 4 long in
        let hexes = rw behind at parts.1.1 in
        let p = and_both (is_hex x) (is_hex y && every is_hex (drop 6 r)) hexes in
        let q = and_both (is_hex y) (every is_hex (drop 6 r)) p.1 in
        let said : n ≡ hex_of x * 16 + hex_of y = ap more_by six
        ∙ rw (get_or-take 6 r 4 0 (omega arith), get_or-take 6 r 5 0 (omega arith)) in
        let two = two_said x y p.0 q.0 in
        let left : length (drop 6 r) ≡ hex_of x * 16 + hex_of y = length-drop 6 r ∙ omega arith in
        record {
          said_so = rw (v, e, a, cert, left, two.1) (ap (λ (l : List ℕ). take 4 r ++ l) (sym behind) ∙ take-append-drop 4 r);
          referred_kept = kept_by (rw cert q.1) (λ f. absurd (omega (arith, sym f ∙ v ∙ e)))
              (λ _. rw (cert, left) two.0);
        }

    pub referred : (version s ≡ 0x02) ⊎ (version s ≡ 0x03) → Referred h s
    referred (inl e) = referred_two e
    referred (inr e) = referred_three e

-- ---- and back

-- what is read where a head's reference stands
pub record ReferenceRead (h : Head) (s : List ℕ) : Type 0 where
  pub reference_read : reference s ≡ reference_of h
  pub reference_kept : is_reference (reference_of h) ≡ true
  pub width_read : width s ≡ length (image_of (reference_of h))
  pub certificate_read : drop (before s) (reference_of h) ≡ h.certificate

-- what the characters between signer and certificate reference say
record Counted (h : Head) (s : List ℕ) : Type 0 where
  count_hex : every is_hex (count_of h) ≡ true
  count_before : before s ≡ 4 + length (count_of h)
  count_length : reference_length s ≡ length (reference_of h)

module _ (s r : List ℕ) (h : Head) (k : ReferenceKept h) (v : version s ≡ h.version)
    (e : drop 4 s ≡ image_of (reference_of h) ++ r) where
  lengths : length (reference_of h) ≡ 4 + (length (count_of h) + length h.certificate)
  unfolding reference_of
  lengths =
      let one = length-append h.signer (count_of h ++ h.certificate) in
      let two = length-append (count_of h) h.certificate in
      omega (arith, k.signer_length)

  signer_c40 : every is_c40 h.signer ≡ true
  signer_c40 =
      let a = h.signer in
      ap (every is_c40) (sym (take-append-drop 2 a)) ∙ every_append is_c40 (take 2 a) (drop 2 a)
      (every_wider is_letter is_c40 letter_c40 (take 2 a) k.signer_letters)
      (every_wider is_letter_or_digit is_c40 either_c40 (drop 2 a) k.signer_others)

  counted : (h.version ≡ 0x02) ⊎ (h.version ≡ 0x03) → Counted h s
  unfolding before reference_length count_of every hexadecimal reference_of octets_for
  counted (inl f) = record {
    count_hex = rw f;
    count_before = rw (v, f);
    count_length = rw (v, f) (omega (arith, rw f at lengths, k.certificate_five f));
  }
  counted (inr f) =
      let n = length h.certificate in
      let two = said_two n (k.certificate_most f) in
      let six = h.signer ++ hexadecimal n in
      let wide : length six ≡ 6 = length-append h.signer (hexadecimal n) ∙ ap (λ (m : ℕ). m + 2) k.signer_length in
      let parted : reference_of h ≡ six ++ h.certificate =
      rw f (sym (append_assoc h.signer (hexadecimal n) h.certificate)) in
      let there : field_at s 4 6 ≡ six = (read_field s 4 6 six (record {
        field_length = wide;
        field_c40 = every_append is_c40 h.signer (hexadecimal n) signer_c40
            (every_wider is_hex is_c40 hex_c40 (hexadecimal n) two.0);
        field_image = six_first s 4 six h.certificate r wide (e ∙ ap (λ (l : List ℕ). image_of l ++ r) parted);
      })).1 in
      let said : more_by (field_at s 4 6) ≡ n = ap more_by there
      ∙ more_said (hex_digit (n / 16)) (hex_digit (n % 16)) h.signer k.signer_length ∙ two.1 in
      record {
        count_hex = rw f two.0;
        count_before = rw (v, f);
        count_length = rw (v, f, said) (omega (arith, rw f at lengths));
      }

  pub read_reference : (h.version ≡ 0x02) ⊎ (h.version ≡ 0x03) → ReferenceRead h s
  unfolding reference_of reference width octets_for
  read_reference kept =
      let n = counted kept in
      let x = h.signer ++ (count_of h ++ h.certificate) in
      let hexes = every_append is_hex (count_of h) h.certificate n.count_hex k.certificate_hex in
      let pure : every is_c40 x ≡ true = every_append is_c40 h.signer (count_of h ++ h.certificate) signer_c40
      (every_wider is_hex is_c40 hex_c40 (count_of h ++ h.certificate) hexes) in
      let wide : length (image_of x) ≡ octets_for (reference_length s) = image_length x ∙ rw n.count_length in
      record {
        reference_read = (read_field s 4 (reference_length s) x (record {
          field_length = sym n.count_length;
          field_c40 = pure;
          field_image = (then_there s 4 (octets_for (reference_length s)) (image_of x) r wide e).0;
        })).1;
        reference_kept = reference_so (count_of h ++ h.certificate) h.signer k.signer_length
            ∙ both_and k.signer_letters (both_and k.signer_others hexes);
        width_read = sym wide;
        certificate_read = ap (drop (before s)) (sym (append_assoc h.signer (count_of h) h.certificate))
            ∙ drop_at (h.signer ++ count_of h) h.certificate (before s)
            (length-append h.signer (count_of h) ∙ omega (arith, k.signer_length, n.count_before));
      }

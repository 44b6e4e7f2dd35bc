-- The parts of a whole seal, put one behind the other, are the seal where they fill the range.
use Prim.Native.Nat.{ℕ, ◌+◌, ◌≤◌, ◌<◌}
use mathlib.Core.Path.{◌≡◌, ap, sym, ◌∙◌}
use mathlib.Core.List.{List, [], ◌∷◌, ◌++◌, append_assoc, append-nil}
use native.Mathlib.Nat.{zero-add}
use native.Mathlib.Omega.{arith}
use lib.ListN.{length, take, length-append}
use lib.Seq.{length-take-le, drop-length}
use Rattle.lent.specs.Copied.{copied_at}
use Rattle.lent.proofs.Copies.{copied_there}
use Rattle.c40.specs.Field.{octets_for}
use Rattle.c40.specs.Inner.Imaged.{reduced, imaged, image_put}
use Rattle.c40.proofs.Imaging.{imaged_length, put_there}
use Rattle.seal_fields.specs.declared.day.Day.{Day}
use Rattle.seal_fields.specs.Day.{day_octets}
use Rattle.seal_fields.specs.Hex.{hexadecimal}
use Rattle.seal_header.specs.declared.header.Header.{Header}
use Rattle.seal_writing.specs.Inner.Parts.{front_part, back_part, zone_start, zone_part, head_part, parts_of, seal_width}
use Rattle.seal_writing.proofs.PartsPut.{part_next, image_next, six_length, day_length}

-- ---- how long they are

pub front_length : (version : ℕ) (country signer : List ℕ) (n : ℕ) → length country ≡ 3 → length signer ≡ 4
    → length (front_part version country signer n) ≡ 8
unfolding front_part octets_for
front_length version country signer n three four =
    let six = signer ++ hexadecimal n in
    let wide : length (imaged country) ≡ 2 = imaged_length country ∙ rw three in
    let long : length (imaged six) ≡ 4 = imaged_length six ∙ rw (six_length signer n four) in
    omega (arith, length-append (imaged country) (imaged six))

pub back_length : (issued signed : Day) → length (back_part issued signed) ≡ 10
unfolding back_part
back_length issued signed =
    let x = reduced (day_octets issued) in
    let y = reduced (day_octets signed) in
    let z : List ℕ = 0x5E ∷ 0x03 ∷ 0x02 ∷ 0x30 ∷ [] in
    omega (arith, length-append x (y ++ z), length-append y z, day_length issued, day_length signed)

-- the header's own
module _ (h : Header) (three : length h.country ≡ 3) (four : length h.signer ≡ 4) (n : length h.reference ≡ 255)
    (most : h.reference_len ≤ 255) where
  front : List ℕ
  front = front_part h.version h.country h.signer h.reference_len

  certificate : List ℕ
  certificate = take h.reference_len h.reference

  pub certificate_length : length (take h.reference_len h.reference) ≡ h.reference_len
  certificate_length = length-take-le h.reference_len h.reference (rw n most)

  image_wide : length (imaged certificate) ≡ octets_for h.reference_len
  unfolding certificate
  image_wide = imaged_length certificate ∙ ap octets_for certificate_length

  pub head_length : length (head_part h) ≡ 18 + octets_for h.reference_len
  unfolding head_part front certificate
  head_length =
      let back = back_part h.issued h.signed_on in
      omega (
        arith,
        length-append front (imaged certificate ++ back),
        length-append (imaged certificate) back,
        front_length h.version h.country h.signer h.reference_len three four,
        image_wide,
        back_length h.issued h.signed_on,
      )

  -- ---- what is put

  pub head_put : (out a b c : List ℕ) → 18 + octets_for h.reference_len ≤ length out
      → a ≡ copied_at out 0 (front_part h.version h.country h.signer h.reference_len)
      → b ≡ image_put a 8 (take h.reference_len h.reference)
      → c ≡ copied_at b (8 + octets_for h.reference_len) (back_part h.issued h.signed_on)
      → c ≡ copied_at out 0 (head_part h)
  unfolding head_part front certificate
  head_put out a b c room p q r =
      let back = back_part h.issued h.signed_on in
      let w = octets_for h.reference_len in
      let eight = front_length h.version h.country h.signer h.reference_len three four in
      let fits : 8 + octets_for (length certificate) ≤ length out = rw certificate_length (omega arith) in
      let first = image_next out a b 0 front 8 (zero-add (length front) ∙ eight) p certificate fits q in
      let long : 0 + length (front ++ imaged certificate) ≡ 8 + w =
      omega (arith, length-append front (imaged certificate), eight, image_wide) in
      let ten : 8 + w + length back ≤ length out = rw (back_length h.issued h.signed_on) (omega arith) in
      let second = part_next out b c 0 (front ++ imaged certificate) (8 + w) long first back ten r in
      second ∙ ap (copied_at out 0) (append_assoc front (imaged certificate) back)

-- a text and a signature behind what there is
pub rest_put : (out a b : List ℕ) (at : ℕ) (t g : List ℕ) → length t ≡ 72 → at + 48 + length (zone_part g) ≤ length out
    → a ≡ image_put out at t → b ≡ copied_at a (at + 48) (zone_part g) → b ≡ copied_at out at (imaged t ++ zone_part g)
unfolding octets_for
rest_put out a b at t g wide room p q =
    let long : length (imaged t) ≡ 48 = imaged_length t ∙ rw wide in
    let fits : at + octets_for (length t) ≤ length out = rw wide (omega arith) in
    let first = p ∙ put_there out at t fits in
    part_next out a b at (imaged t) (at + 48) (rw long) first (zone_part g) room q

-- a range that is as long as what is copied to its front becomes it
pub whole_copied : (out x : List ℕ) → length x ≡ length out → copied_at out 0 x ≡ x
whole_copied out x e =
    let fits : 0 + length x ≤ length out = omega (arith, e) in
    copied_there out 0 x fits ∙ rw (zero-add, e, drop-length) (append-nil x)

module _ (h : Header) (t g : List ℕ) (head : length (head_part h) ≡ 18 + octets_for h.reference_len)
    (wide : length t ≡ 72) where
  pub parts_length : length (parts_of h t g) ≡ seal_width h.reference_len g
  unfolding parts_of seal_width octets_for
  parts_length =
      let long : length (imaged t) ≡ 48 = imaged_length t ∙ rw wide in
      omega (arith, length-append (head_part h) (imaged t ++ zone_part g), length-append (imaged t) (zone_part g), head)

  pub seal_put : (out a b : List ℕ) → length out ≡ seal_width h.reference_len g → a ≡ copied_at out 0 (head_part h)
      → b ≡ copied_at a (18 + octets_for h.reference_len) (imaged t ++ zone_part g) → b ≡ parts_of h t g
  unfolding parts_of
  seal_put out a b room p q =
      let rest = imaged t ++ zone_part g in
      let w = octets_for h.reference_len in
      let whole : length (head_part h ++ rest) ≡ length out = parts_length ∙ sym room in
      let fits : 18 + w + length rest ≤ length out = omega (arith, length-append (head_part h) rest, whole, head) in
      part_next out a b 0 (head_part h) (18 + w) (zero-add (length (head_part h)) ∙ head) p rest fits q
      ∙ whole_copied out (head_part h ++ rest) whole

-- the signature of a seal of up to 65,535 octets has a length of three octets at most
pub signature_within : (n : ℕ) (g : List ℕ) (wide : ℕ) → wide ≡ seal_width n g → wide ≤ 65535 → length g < 65536
unfolding seal_width zone_part
signature_within n g wide e h = omega (arith, length-append (zone_start (length g)) g)

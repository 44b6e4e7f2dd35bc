-- Parts put into a range, one behind the other, are put there joined.
use Prim.Native.Nat.{ℕ, ◌+◌, ◌-◌, ◌/◌, ◌%◌, ◌≤◌, ◌<◌}
use mathlib.Core.Path.{◌≡◌, refl, ap, ◌∙◌}
use mathlib.Core.List.{List, [], ◌∷◌, ◌++◌, append_assoc}
use native.Mathlib.Omega.{arith}
use borrow.Author.Tests.{le-leb, lt-leb}
use lib.ListN.{length, take, drop, set, length-append, length-drop}
use Rattle.lent.specs.Copied.{copied, copied_at}
use Rattle.lent.proofs.Lists.{rest_all}
use Rattle.lent.proofs.Copies.{copied_both, length-copied}
use Rattle.tlv.specs.Element.{length_octets}
use Rattle.c40.specs.Field.{octets_for}
use Rattle.c40.specs.Inner.Imaged.{reduced, imaged, image_put}
use Rattle.c40.proofs.Imaging.{imaged_length, put_there}
use Rattle.seal_fields.specs.declared.day.Day.{Day}
use Rattle.seal_fields.specs.Day.{day_octets, three_octets}
use Rattle.seal_fields.specs.Hex.{hexadecimal}
use Rattle.seal_fields.proofs.Short.{of_four}
use Rattle.seal_writing.specs.Inner.Parts.{front_part, back_part, zone_start, zone_part}

-- one part more behind those that were put from a place on
module _ (out before after : List ℕ) (at : ℕ) (x : List ℕ) (n : ℕ) (there : at + length x ≡ n)
    (e : before ≡ copied_at out at x) where
  pub part_next : (p : List ℕ) → n + length p ≤ length out → after ≡ copied_at before n p → after ≡ copied_at out at (x ++ p)
  part_next p room f =
      let fits : at + (length x + length p) ≤ length out = omega (arith, there) in
      f ∙ rw (e, ← there) (copied_both out at x p fits)

  pub image_next : (t : List ℕ) → n + octets_for (length t) ≤ length out → after ≡ image_put before n t
      → after ≡ copied_at out at (x ++ imaged t)
  image_next t room f =
      let whole : length before ≡ length out = ap length e ∙ length-copied out at x (omega (arith, there)) in
      part_next (imaged t) (rw (imaged_length t) room) (f ∙ put_there before n t (rw whole room))

-- four characters and two
pub six_joined : (x y : ℕ) (a : List ℕ) → length a ≡ 4
    → set (set (copied (0 ∷ 0 ∷ 0 ∷ 0 ∷ 0 ∷ 0 ∷ []) a) 4 x) 5 y ≡ a ++ (x ∷ y ∷ [])
six_joined x y = of_four (λ l. set (set (copied (0 ∷ 0 ∷ 0 ∷ 0 ∷ 0 ∷ 0 ∷ []) l) 4 x) 5 y ≡ l ++ (x ∷ y ∷ [])) (λ a b c d. refl)

pub six_length : (a : List ℕ) (n : ℕ) → length a ≡ 4 → length (a ++ hexadecimal n) ≡ 6
unfolding hexadecimal
six_length a n h = length-append a (hexadecimal n) ∙ ap (λ (m : ℕ). m + 2) h

pub front_put : (out a b c : List ℕ) (version : ℕ) (country signer : List ℕ) (n : ℕ) → 8 ≤ length out → length country ≡ 3
    → length signer ≡ 4 → a ≡ copied_at out 0 (0xDC ∷ version ∷ []) → b ≡ image_put a 2 country
    → c ≡ image_put b 4 (signer ++ hexadecimal n) → c ≡ copied_at out 0 (front_part version country signer n)
unfolding front_part octets_for
front_put out a b c version country signer n room three four p q r =
    let start : List ℕ = 0xDC ∷ version ∷ [] in
    let six = signer ++ hexadecimal n in
    let wide : length (imaged country) ≡ 2 = imaged_length country ∙ rw three in
    let first = image_next out a b 0 start 2 refl p country (rw three (omega arith)) q in
    let long : 0 + length (start ++ imaged country) ≡ 4 = rw (length-append start (imaged country), wide) in
    let second = image_next out b c 0 (start ++ imaged country) 4 long first six
    (rw (six_length signer n four) (omega arith)) r in
    second ∙ ap (copied_at out 0) (append_assoc start (imaged country) (imaged six))

pub day_length : (d : Day) → length (reduced (day_octets d)) ≡ 3
unfolding reduced day_octets three_octets
day_length d = refl

pub back_put : (out a b c : List ℕ) (at : ℕ) (issued signed : Day) → at + 10 ≤ length out
    → a ≡ copied_at out at (reduced (day_octets issued)) → b ≡ copied_at a (at + 3) (reduced (day_octets signed))
    → c ≡ copied_at b (at + 6) (0x5E ∷ 0x03 ∷ 0x02 ∷ 0x30 ∷ []) → c ≡ copied_at out at (back_part issued signed)
unfolding back_part
back_put out a b c at issued signed room p q r =
    let x = reduced (day_octets issued) in
    let y = reduced (day_octets signed) in
    let z : List ℕ = 0x5E ∷ 0x03 ∷ 0x02 ∷ 0x30 ∷ [] in
    let m = day_length issued in
    let n = day_length signed in
    let first = part_next out a b at x (at + 3) (rw m) p y (rw n (omega arith)) q in
    let long : at + length (x ++ y) ≡ at + 6 = rw (length-append x y, m, n) in
    let second = part_next out b c at (x ++ y) (at + 6) long first z (omega arith) r in
    second ∙ ap (copied_at out at) (append_assoc x y z)

-- the room that a signature zone takes
pub zone_room : (g : List ℕ) (at m w : ℕ) → at + length (zone_part g) ≤ m → w ≡ length (zone_start (length g))
    → at + w + length g ≤ m
unfolding zone_part
zone_room g at m w h e = omega (arith, length-append (zone_start (length g)) g)

-- its start, and then the signature
pub zone_put : (out a : List ℕ) (at w : ℕ) (g : List ℕ) → at + length (zone_part g) ≤ length out → w
    ≡ length (zone_start (length g))
    → a ≡ copied_at out at (zone_start (length g)) → copied_at a (at + w) g ≡ copied_at out at (zone_part g)
unfolding zone_part
zone_put out a at w g room e p =
    let fits = zone_room g at (length out) w room e in
    part_next out a (copied_at a (at + w) g) at (zone_start (length g)) (at + w) (rw e) p g fits refl

-- FF and each kind of length
pub start_short : (n : ℕ) → n ≤ 0x7F → zone_start n ≡ 0xFF ∷ n ∷ []
unfolding zone_start length_octets
start_short n h = rw (le-leb n 0x7F h)

pub start_longer : (n : ℕ) → 0x7F < n → n ≤ 255 → zone_start n ≡ 0xFF ∷ 0x81 ∷ n ∷ []
unfolding zone_start length_octets
start_longer n h k = rw (lt-leb n 0x7F h, le-leb n 255 k)

pub start_longest : (n : ℕ) → 255 < n → zone_start n ≡ 0xFF ∷ 0x82 ∷ (n / 256) ∷ (n % 256) ∷ []
unfolding zone_start length_octets
start_longest n h = rw (lt-leb n 0x7F (omega arith), lt-leb n 255 h)

-- the part of a range from a place on has room for what ends before it
pub part_room : (s : List ℕ) (at n m : ℕ) → length s ≡ m → at + n ≤ m → n ≤ length (take (length s - at) (drop at s))
part_room s at n m e h = rw (rest_all s at, length-drop) (omega (arith, e))

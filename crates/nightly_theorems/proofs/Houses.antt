-- THE HOUSES OF A LIST STAND TOGETHER: a key begins with its house, so that where keys rise no house is below one before it; the
-- lines below a house, and then its own, are those below the next.
use Prim.Native.Nat.{ℕ, ◌+◌, ◌*◌, ◌/◌, ◌^◌, ◌≤◌, ◌<◌}
use mathlib.Core.Path.{◌≡◌, refl, ap, sym, ◌∙◌}
use mathlib.Core.Bool.{Bool, true, false, cond}
use mathlib.Core.List.{List, [], ◌∷◌, append-nil}
use native.Mathlib.Omega.{arith}
use borrow.Author.Tests.{eqb-true, eqb-false, ne_eqb, ltb-true, lt-ltb}
use lib.Dec.{eqb, ltb}
use lib.ListN.{length, take, drop, get_or, length-drop}
use Rattle.lent.proofs.Bools.{and_both}
use Rattle.zone.specs.Alphabet.{every}
use Rattle.zone.specs.declared.record.Record.{Record}
use Rattle.zone.proofs.Every.{every_drop}
use Rattle.sound.specs.Sound.{is_sound}
use Rattle.cells.specs.Bits.{octets, bits_at}
use Rattle.cells.specs.Cells.{put_row, octets_of, numbers_at}
use Rattle.cells.proofs.BitsOfOctets.{is_bit, worth, worth_lt}
use Rattle.cells.proofs.OctetsOfBits.{octets_first}
use Rattle.cells.proofs.Putting.{row_bits_lem}
use Rattle.cells.proofs.RowOctets.{no_bits, length-octets}
use Rattle.cells.proofs.Shifts.{bits_below, bits_joined, octet_read, octet_more}
use Rattle.entry.specs.Row.{row, cells}
use Rattle.entry.specs.Entry.{values, entry_of, is_house}
use Rattle.runs.specs.Run.{house_in}
use Rattle.nightly.specs.Key.{is_below}
use Rattle.run_theorems.specs.Keys.{key_of}
use Rattle.run_theorems.specs.Runs.{Line, is_kept, all_kept}
use Rattle.run_theorems.proofs.EntryLengths.{entry_bounds}
use Rattle.run_theorems.proofs.ListReadBack.{kept_both}
use Rattle.run_theorems.proofs.WrittenThenRead.{decoded}
use Rattle.nightly_theorems.specs.Listed as listed
use Rattle.nightly_theorems.specs.Listed.{key_in}
use Rattle.nightly_theorems.proofs.Rising.{rises_from}

-- ---- a key begins with its house

-- the first two octets of what begins with fifteen bits that say a number
record FirstTwo (h : ℕ) (s : List ℕ) : Type 0 where
  first : ℕ
  second : ℕ
  behind : List ℕ
  same : s ≡ first ∷ second ∷ behind
  first_small : first < 256
  second_small : second < 256
  says : h ≡ (first * 256 + second) / 2

says_house : (s : List ℕ) → get_or s 0 0 < 256 → get_or s 1 0 < 256 → house_in s ≡ (get_or s 0 0 * 256 + get_or s 1 0) / 2
unfolding house_in numbers_at
says_house s a b =
    let told : house_in s ≡ bits_at s 0 15 = refl in
    let both : bits_at s 0 16 ≡ bits_at s 0 15 * 2 ^ 1 + bits_at s 15 1 = bits_joined s 0 15 1 in
    let one : bits_at s 15 1 < 2 ^ 1 = bits_below s 15 1 in
    let two : bits_at s 0 16 ≡ bits_at s 0 8 * 256 + get_or s 1 0 = octet_more s 0 1 b in
    let eight : bits_at s 0 8 ≡ get_or s 0 0 = octet_read s 0 a in
    omega (arith, told, both, one, two, eight)

module _ (h : ℕ) (r : Record) (house : is_house h ≡ true) (sound : is_sound r ≡ true) where
  bits : List ℕ
  bits = put_row (cells row) (values row h r) []

  are_bits : every is_bit bits ≡ true
  unfolding bits
  are_bits = row_bits_lem (cells row) (values row h r) [] no_bits

  many_bits : 16 ≤ length bits
  unfolding bits entry_of octets_of
  many_bits = let n = length-octets bits in let k = (entry_bounds h r sound).0 in omega (arith, n, k)

  first_two : FirstTwo h (entry_of h r)
  unfolding bits entry_of octets_of
  first_two =
      let many = many_bits in
      let one = octets_first bits are_bits (omega (arith, many)) in
      let rest = every_drop is_bit 8 bits are_bits in
      let left : 8 ≤ length (drop 8 bits) = rw (length-drop 8 bits) (omega (arith, many)) in
      let two = octets_first (drop 8 bits) rest left in
      let same = one ∙ ap (λ (x : List ℕ). worth 8 bits ∷ x) two in
      let a = worth_lt 8 bits are_bits in
      let b = worth_lt 8 (drop 8 bits) rest in
      let told = ap house_in (sym (append-nil (entry_of h r))) ∙ (decoded h r house sound []).house_told in
      record {
        first = worth 8 bits;
        second = worth 8 (drop 8 bits);
        behind = octets (drop 8 (drop 8 bits));
        same = same;
        first_small = a;
        second_small = b;
        says = sym told ∙ (ap house_in same ∙ says_house _ a b);
      }

not_less : (x y : ℕ) (r : Bool) → cond (eqb x y) r (ltb x y) ≡ true → x ≤ y
not_less x y r e = go (eqb x y) refl e
  where
    go : (b : Bool) → eqb x y ≡ b → cond b r (ltb x y) ≡ true → x ≤ y
    go true q f = omega (arith, eqb-true x y q)
    go false q f = omega (arith, ltb-true x y f)

-- two numbers of two octets, the first of which is below
two_below : (a b c d : ℕ) (r : Bool) → b < 256 → cond (eqb a c) (cond (eqb b d) r (ltb b d)) (ltb a c) ≡ true
    → a * 256 + b ≤ c * 256 + d
two_below a b c d r small e = go (eqb a c) refl e
  where
    go : (x : Bool) → eqb a c ≡ x → cond x (cond (eqb b d) r (ltb b d)) (ltb a c) ≡ true → a * 256 + b ≤ c * 256 + d
    go true q f = omega (arith, eqb-true a c q, not_less b d r f)
    go false q f = omega (arith, ltb-true a c f, small)

two_octets : (h k : ℕ) (s t : List ℕ) → FirstTwo h s → FirstTwo k t → is_below (take 30 s) (take 30 t) ≡ true → h ≤ k
unfolding is_below
two_octets h k s t a b e =
    let f = rw (a.same, b.same) at e in
    let rest = is_below (take 28 a.behind) (take 28 b.behind) in
    let less = two_below a.first a.second b.first b.second rest a.second_small f in
    omega (arith, less, a.says, b.says)

two_above : (a b c d : ℕ) (r : Bool) → d < 256 → a * 256 + b < c * 256 + d → b < 256
    → cond (eqb a c) (cond (eqb b d) r (ltb b d)) (ltb a c) ≡ true
two_above a b c d r small less narrow = go (eqb a c) refl
  where
    go : (x : Bool) → eqb a c ≡ x → cond x (cond (eqb b d) r (ltb b d)) (ltb a c) ≡ true
    go true q =
        let same = eqb-true a c q in
        let below : b < d = omega (arith, same, less) in
        rw (ne_eqb b d (λ e. omega (arith, below, e))) (lt-ltb b d below)
    go false q = lt-ltb a c (omega (arith, eqb-false a c q, less, small))

octets_above : (h k : ℕ) (s t : List ℕ) → FirstTwo h s → FirstTwo k t → h < k → is_below (take 30 s) (take 30 t) ≡ true
unfolding is_below
octets_above h k s t a b less =
    let rest = is_below (take 28 a.behind) (take 28 b.behind) in
    rw (a.same, b.same)
    (two_above a.first a.second b.first b.second rest b.second_small (omega (arith, less, a.says, b.says))
    a.second_small)

-- the key of a lower house is below
pub house_below : (l m : Line) → is_kept l ≡ true → is_kept m ≡ true → l.house < m.house → is_below (key_in l) (key_in m) ≡ true
unfolding key_of
house_below l m k j less =
    let a = kept_both l k in
    let b = kept_both m j in
    octets_above l.house m.house (listed.octets_of l) (listed.octets_of m)
    (first_two l.house l.kept a.0 a.1) (first_two m.house m.kept b.0 b.1) less

-- a key below another has no house above
pub house_rises : (l m : Line) → is_kept l ≡ true → is_kept m ≡ true → is_below (key_in l) (key_in m) ≡ true → l.house ≤ m.house
unfolding key_of
house_rises l m k j e =
    let a = kept_both l k in
    let b = kept_both m j in
    two_octets l.house m.house (listed.octets_of l) (listed.octets_of m)
    (first_two l.house l.kept a.0 a.1) (first_two m.house m.kept b.0 b.1) e

-- ---- so houses never fall

-- every house from one on
unfoldable pub AllFrom : (house : ℕ) → List Line → Type 0
AllFrom house [] = Unit {0}
AllFrom house (l ∷ ls) = (house ≤ l.house) × AllFrom house ls

unfoldable pub Ascending : List Line → Type 0
Ascending [] = Unit {0}
Ascending (l ∷ ls) = AllFrom l.house ls × Ascending ls

pub from_lower : (a b : ℕ) (ls : List Line) → a ≤ b → AllFrom b ls → AllFrom a ls
unfolding AllFrom
from_lower a b [] h f = tt
from_lower a b (l ∷ ls) h f = (omega (arith, h, f.0), from_lower a b ls h f.1)

rising_from : (l : Line) (ls : List Line) → is_kept l ≡ true → all_kept ls ≡ true → rises_from (key_in l) ls ≡ true
    → AllFrom l.house ls × Ascending ls
unfolding AllFrom Ascending rises_from all_kept
rising_from l [] k all r = (tt, tt)
rising_from l (m ∷ ls) k all r =
    let both = and_both (is_kept m) (all_kept ls) all in
    let above = and_both (is_below (key_in l) (key_in m)) (rises_from (key_in m) ls) r in
    let rest = rising_from m ls both.0 both.1 above.1 in
    let h = house_rises l m k both.0 above.0 in
    ((h, from_lower l.house m.house ls h rest.0), rest)

pub ascending : (key : List ℕ) (ls : List Line) → all_kept ls ≡ true → rises_from key ls ≡ true → Ascending ls
unfolding Ascending rises_from all_kept
ascending key [] all r = tt
ascending key (l ∷ ls) all r =
    let both = and_both (is_kept l) (all_kept ls) all in
    rising_from l ls both.0 both.1 (and_both (is_below key (key_in l)) (rises_from (key_in l) ls) r).1

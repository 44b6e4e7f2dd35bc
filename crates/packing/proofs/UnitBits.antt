-- Units of six bits as bits: four of them say what their three octets say, also some bits on.
use Prim.Native.Nat.{ℕ, zero, suc, ◌+◌, ◌-◌, ◌*◌, ◌/◌, ◌%◌, ◌^◌, ◌≤◌, ◌<◌}
use mathlib.Core.Path.{◌≡◌, refl, ap, sym, ◌∙◌}
use mathlib.Core.Bool.{true, ◌&&◌}
use mathlib.Core.List.{List, [], ◌∷◌, ◌++◌}
use native.Mathlib.Nat.{mod-eq_of_lt}
use native.Mathlib.Omega.{arith}
use borrow.Author.Tests.{ltb-true}
use lib.Dec.{ltb}
use lib.ListN.{length, drop}
use lib.Pow.{high, low, shr_lt}
use Rattle.lent.proofs.Bools.{and_both}
use Rattle.zone.specs.Alphabet.{every}
use Rattle.cells.specs.Bits.{put, octets}
use Rattle.cells.specs.Cells.{put_all}
use Rattle.cells.proofs.Gather.{put_low, put_halves, put_split}
use Rattle.cells.proofs.BitsOfOctets.{drop-put}
use Rattle.cells.proofs.OctetsOfBits.{gathered_eight}
use Rattle.cells.proofs.Fitting.{is_held}
use Rattle.packing.specs.Packed.{four, four_at, four_on, packed}

-- a number behind another
pub put_more : (k w v u : ℕ) (t : List ℕ) → u < 2 ^ w → put k v (put w u t) ≡ put (k + w) (v * 2 ^ w + u) t
put_more k w v u t h = rw (high v w h, low v w h) at (put_halves k w (v * 2 ^ w + u) t)

four_units : (a b c d : ℕ) (t : List ℕ) → b < 64 → c < 64 → d < 64
    → put 6 a (put 6 b (put 6 c (put 6 d t))) ≡ put 24 (four a b c d) t
four_units a b c d t h k l =
    put_more 6 6 a b (put 6 c (put 6 d t)) h ∙ put_more 12 6 (a * 64 + b) c (put 6 d t) k
    ∙ put_more 18 6 ((a * 64 + b) * 64 + c) d t l

octets_three : (v : ℕ) (t : List ℕ) → octets (put 24 v t) ≡ (v / 65536 % 256) ∷ (v / 256 % 256) ∷ (v % 256) ∷ octets t
octets_three v t =
    let high : v / 65536 ≡ v / 256 / 256 = omega arith in
    let split : put 24 v t ≡ put 8 (v / 65536 % 256) (put 8 (v / 256 % 256) (put 8 (v % 256) t)) =
    sym (put_low 8 (v / 65536) (put 8 (v / 256 % 256) (put 8 (v % 256) t))
    ∙ ap (λ (x : ℕ). put 8 x (put 8 (v / 256 % 256) (put 8 (v % 256) t))) high
    ∙ put_halves 8 8 (v / 256) (put 8 (v % 256) t) ∙ put_halves 16 8 v t) in
    ap octets split ∙ gathered_eight (v / 65536 % 256) _ (omega arith)
    ∙ ap (λ (l : List ℕ). (v / 65536 % 256) ∷ l) (gathered_eight (v / 256 % 256) _ (omega arith))
    ∙ ap (λ (l : List ℕ). (v / 65536 % 256) ∷ (v / 256 % 256) ∷ l) (gathered_eight (v % 256) t (omega arith))

-- the first bits left out
drop-first : (j w v : ℕ) (t : List ℕ) → drop j (put (j + w) v t) ≡ put w v t
drop-first j w v t = ap (drop j) (put_split j w v t) ∙ drop-put j (v / 2 ^ w) (put w v t)

-- ---- j bits on

pub unit_left : (j e : ℕ) (t : List ℕ) → j ≤ 6 → drop j (put 6 e t) ≡ put (6 - j) e t
unit_left j e t h = let same : j + (6 - j) ≡ 6 = omega arith in rw same at (drop-first j (6 - j) e t)

module _ (j : ℕ) (few : j ≤ 6) where
  -- a number of 24 bits before a unit
  number_on : (f e : ℕ) (t : List ℕ) → e < 64
      → drop j (put 24 f (put 6 e t)) ≡ put 24 (f * 2 ^ j + e / 2 ^ (6 - j)) (drop j (put 6 e t))
  number_on f e t h =
      let z = put (6 - j) e t in
      let n = f * 2 ^ j + e / 2 ^ (6 - j) in
      let same : j + (6 - j) ≡ 6 = omega arith in
      let turned : 24 + j ≡ j + 24 = omega arith in
      let parted : put 6 e t ≡ put j (e / 2 ^ (6 - j)) z = rw same at (put_split j (6 - j) e t) in
      let less : e / 2 ^ (6 - j) < 2 ^ j = shr_lt j (6 - j) (rw same h) in
      ap (λ (l : List ℕ). drop j (put 24 f l)) parted
      ∙ ap (drop j) (put_more 24 j f (e / 2 ^ (6 - j)) z less ∙ ap (λ (w : ℕ). put w n z) turned)
      ∙ drop-first j 24 n z ∙ ap (put 24 n) (sym (unit_left j e t few))

  -- the first four of some
  abbrev Held : List ℕ → Type 0
  Held s = every (is_held 6) s ≡ true

  first_four : (a b c d : ℕ) (s t : List ℕ) → b < 64 → c < 64 → d < 64 → Held s → (0 < j → 0 < length s)
      → octets (drop j (put_all 6 (a ∷ b ∷ c ∷ d ∷ s) t))
      ≡ packed j 1 (a ∷ b ∷ c ∷ d ∷ s) ++ octets (drop j (put_all 6 s t))
  unfolding put_all packed four_on four_at every is_held
  first_four a b c d [] t hb hc hd p more =
      let none : j ≡ 0 = ends j more in
      let same : four a b c d * 2 ^ 0 + 0 ≡ four a b c d = omega arith in
      ap (λ (l : List ℕ). octets (drop j l)) (four_units a b c d t hb hc hd) ∙ rw (none, same) (octets_three (four a b c d) t)
    where
      ends : (j : ℕ) → (0 < j → 0 < 0) → j ≡ 0
      ends zero f = refl
      ends (suc j) f = absurd (omega (arith, f (omega arith)))
  first_four a b c d (e ∷ s) t hb hc hd p more =
      let x = put_all 6 s t in
      let less : e < 64 = ltb-true e 64 (and_both (ltb e 64) (every (is_held 6) s) p).0 in
      let same : e % 64 ≡ e = mod-eq_of_lt less in
      ap (λ (l : List ℕ). octets (drop j l)) (four_units a b c d (put 6 e x) hb hc hd)
      ∙ rw same (ap octets (number_on (four a b c d) e x less)
      ∙ octets_three (four a b c d * 2 ^ j + e / 2 ^ (6 - j)) (drop j (put 6 e x)))

  -- units by fours, with one behind them where they are some bits on: their octets, and those of what follows
  pub octets_packed : (k : ℕ) (s t : List ℕ) → Held s → 4 * k ≤ length s → (0 < j → 4 * k < length s)
      → octets (drop j (put_all 6 s t)) ≡ packed j k s ++ octets (drop j (put_all 6 (drop (4 * k) s) t))
  unfolding packed every is_held
  octets_packed zero s t p h more = refl
  octets_packed (suc k) [] t p h more = absurd (omega arith)
  octets_packed (suc k) (a ∷ []) t p h more = absurd (omega arith)
  octets_packed (suc k) (a ∷ (b ∷ [])) t p h more = absurd (omega arith)
  octets_packed (suc k) (a ∷ (b ∷ (c ∷ []))) t p h more = absurd (omega arith)
  octets_packed (suc k) (a ∷ (b ∷ (c ∷ (d ∷ s)))) t p h more =
      let pa = and_both (ltb a 64) (ltb b 64 && (ltb c 64 && (ltb d 64 && every (is_held 6) s))) p in
      let pb = and_both (ltb b 64) (ltb c 64 && (ltb d 64 && every (is_held 6) s)) pa.1 in
      let pc = and_both (ltb c 64) (ltb d 64 && every (is_held 6) s) pb.1 in
      let pd = and_both (ltb d 64) (every (is_held 6) s) pc.1 in
      let e : 4 * suc k ≡ suc (suc (suc (suc (4 * k)))) = omega arith in
      let rest = octets_packed k s t pd.1 (omega arith) (λ (i : 0 < j). omega (arith, more i)) in
      first_four a b c d s t (ltb-true b 64 pb.0) (ltb-true c 64 pc.0) (ltb-true d 64 pd.0) pd.1
      (λ (i : 0 < j). omega (arith, more i))
      ∙ rw (e, rest)

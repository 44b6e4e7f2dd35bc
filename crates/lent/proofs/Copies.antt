-- What a range holds after a copy to a place: there what was copied, elsewhere what was there.
use Prim.Native.Nat.{ℕ, ◌+◌, ◌-◌, ◌≤◌, suc, ◌<◌}
use mathlib.Core.Path.{◌≡◌, ap, sym, ◌∙◌}
use mathlib.Core.List.{List, ◌++◌, append_assoc, [], ◌∷◌}
use native.Mathlib.Omega.{arith}
use lib.ListN.{length, take, drop, length-take, length-drop, length-append, take-append-drop, set}
use lib.Seq.{take_all, length-take-le, take-append-le, drop-append-le, drop-append-add, drop-drop, drop_at, take-append-add}
use lib.Seq.{drop-cons, set_at, take_at}
use native.Mathlib.Numerals.{add-one}
use Rattle.lent.specs.Copied.{copied_at}

module _ (t : List ℕ) (b : ℕ) (s : List ℕ) (fits : b + length s ≤ length t) where
  pub copied_there : copied_at t b s ≡ take b t ++ (s ++ drop (b + length s) t)
  copied_there =
      let room : length s ≤ length (drop b t) = rw length-drop (omega arith) in
      rw (take_all (length (drop b t)) s room, drop-drop)

  pub length-copied : length (copied_at t b s) ≡ length t
  length-copied = rw (copied_there, length-append, length-append, length-take, length-drop) (omega arith)

  -- what stands before it
  pub before_copied : (a w : ℕ) → a + w ≤ b → take w (drop a (copied_at t b s)) ≡ take w (drop a t)
  before_copied a w h = rw copied_there
      (front (s ++ drop (b + length s) t) ∙ sym (ap (λ u. take w (drop a u)) (sym (take-append-drop b t)) ∙ front (drop b t)))
    where
      front : (z : List ℕ) → take w (drop a (take b t ++ z)) ≡ take w (drop a (take b t))
      front z =
          let n : length (take b t) ≡ b = length-take-le b t (omega arith) in
          let k : w ≤ length (drop a (take b t)) = rw (length-drop, n) (omega arith) in
          rw (drop-append-le a (take b t) z (rw n (omega arith))) (take-append-le w (drop a (take b t)) z k)

  -- what stands behind it
  pub behind_copied : (a w : ℕ) → b + length s ≤ a → take w (drop a (copied_at t b s)) ≡ take w (drop a t)
  behind_copied a w h =
      let p = take b t ++ s in
      let n : length p ≡ b + length s = rw (length-append, length-take-le b t (omega arith)) in
      let k = a - (b + length s) in
      let e : length p + k ≡ a = rw n (omega arith) in
      let f : (b + length s) + k ≡ a = omega arith in
      rw (
        copied_there,
        ← append_assoc (take b t) s (drop (b + length s) t),
        ← e,
        drop-append-add p (drop (b + length s) t) k,
        drop-drop k (b + length s) t,
        n,
      )

  -- the place itself, wider perhaps than what is copied there
  pub at_copied : (w : ℕ) → length s ≤ w → take w (drop b (copied_at t b s)) ≡ s ++ take (w - length s) (drop (b + length s) t)
  at_copied w h =
      let n : length (take b t) ≡ b = length-take-le b t (omega arith) in
      let e : length s + (w - length s) ≡ w = omega arith in
      rw (copied_there, drop_at (take b t) (s ++ drop (b + length s) t) b n)
      (ap (λ k. take k (s ++ drop (b + length s) t)) (sym e) ∙ take-append-add s (drop (b + length s) t) (w - length s))

pub set_behind : (t : List ℕ) (b : ℕ) (s : List ℕ) (c : ℕ) → b + length s < length t
    → set (copied_at t b s) (b + length s) c ≡ copied_at t b (s ++ (c ∷ []))
set_behind t b s c h =
    let p = take b t ++ s in
    let n : length p ≡ b + length s = rw (length-append, length-take-le b t (omega arith)) in
    let m : length (s ++ (c ∷ [])) ≡ suc (length s) = length-append s (c ∷ []) ∙ add-one (length s) in
    let k : b + length (s ++ (c ∷ [])) ≡ suc (b + length s) = rw m (omega arith) in
    rw (
      copied_there t b s (omega arith),
      copied_there t b (s ++ (c ∷ [])) (rw k (omega arith)),
      k,
      drop-cons t (b + length s) 0 h,
      append_assoc s (c ∷ []) (drop (suc (b + length s)) t),
      ← append_assoc (take b t) s (c ∷ drop (suc (b + length s)) t),
    )
    (ap (λ l. set l (b + length s) c) (sym (append_assoc (take b t) s _)) ∙ set_at p _ (drop (suc (b + length s)) t) c
    (b + length s) n)

pub copied_both : (t : List ℕ) (b : ℕ) (s u : List ℕ) → b + (length s + length u) ≤ length t
    → copied_at (copied_at t b s) (b + length s) u ≡ copied_at t b (s ++ u)
copied_both t b s u h =
    let p = take b t ++ s in
    let n : length p ≡ b + length s = rw (length-append, length-take-le b t (omega arith)) in
    let whole : copied_at t b s ≡ p ++ drop (b + length s) t =
    copied_there t b s (omega arith) ∙ sym (append_assoc (take b t) s (drop (b + length s) t)) in
    let long : length (p ++ drop (b + length s) t) ≡ length t = rw (← whole) (length-copied t b s (omega arith)) in
    let m : length (s ++ u) ≡ length s + length u = length-append s u in
    let both : b + length s + length u ≡ b + length (s ++ u) = omega (arith, m) in
    let behind : drop (b + length s + length u) (p ++ drop (b + length s) t) ≡ drop (b + length (s ++ u)) t =
    ap (λ k. drop (k + length u) (p ++ drop (b + length s) t)) (sym n) ∙ drop-append-add p (drop (b + length s) t) (length u)
    ∙ drop-drop (length u) (b + length s) t ∙ ap (λ k. drop k t) both in
    rw (
      whole,
      copied_there (p ++ drop (b + length s) t) (b + length s) u (rw long (omega arith)),
      take_at p (drop (b + length s) t) (b + length s) n,
      behind,
      copied_there t b (s ++ u) (rw m (omega arith)),
    )
    (append_assoc (take b t) s (u ++ drop (b + length (s ++ u)) t)
    ∙ ap (λ l. take b t ++ l) (sym (append_assoc s u (drop (b + length (s ++ u)) t))))

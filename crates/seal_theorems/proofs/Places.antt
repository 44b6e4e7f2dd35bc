-- What stands at a place of the octets, and what is left behind it.
use Prim.Native.Nat.{ℕ, ◌+◌, ◌<◌}
use mathlib.Core.Path.{◌≡◌, refl, ap, sym, ◌∙◌}
use mathlib.Core.Bool.{Bool, true, false}
use mathlib.Core.List.{List, ◌∷◌, ◌++◌}
use native.Mathlib.Omega.{arith}
use borrow.Author.Tests.{ltb-true, ltb-false}
use lib.Dec.{ltb}
use lib.ListN.{length, take, drop, get_or, take-append-drop, get_or-eq_default}
use lib.Seq.{drop-drop, take_at, drop_at}
use Rattle.tlv.proofs.Encoded.{next_octet}

module _ (s : List ℕ) (at n : ℕ) where
  pub there_then : (x : List ℕ) → take n (drop at s) ≡ x → drop at s ≡ x ++ drop (at + n) s
  there_then x e = sym (take-append-drop n (drop at s)) ∙ rw (e, drop-drop n at s)

  pub then_there : (x r : List ℕ) → length x ≡ n → drop at s ≡ x ++ r → (take n (drop at s) ≡ x) × (drop (at + n) s ≡ r)
  then_there x r h e =
      (ap (take n) e ∙ take_at x r n h, sym (drop-drop n at s) ∙ ap (drop n) e ∙ drop_at x r n h)

-- an octet that is not 0 stands before the end
pub octet_there : (s : List ℕ) (at c : ℕ) → 0 < c → get_or s at 0 ≡ c → drop at s ≡ c ∷ drop (at + 1) s
octet_there s at c h e = go (ltb at (length s)) refl
  where
    go : (b : Bool) → ltb at (length s) ≡ b → drop at s ≡ c ∷ drop (at + 1) s
    go true p = next_octet s at (ltb-true at (length s) p) ∙ ap (λ (n : ℕ). n ∷ drop (at + 1) s) e
    go false p = absurd (let z : get_or s at 0 ≡ 0 = get_or-eq_default s 0 (ltb-false at (length s) p) in omega arith)

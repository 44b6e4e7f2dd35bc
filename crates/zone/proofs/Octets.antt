-- Lent octets: each of them is below 256, wherever one looks; and where each is, they are octets.
use Prim.Native.Nat.{ℕ, zero, suc, ◌<◌}
use mathlib.Core.List.{List, [], ◌∷◌}
use native.Mathlib.Omega.{arith}
use borrow.Author.Tests.{lt-ltb, ltb-true}
use lib.ListN.{get_or}
use Rattle.lent.proofs.Bools.{and_both}
use Rattle.zone.specs.Alphabet.{every}
use Rattle.zone.specs.Octets.{is_octet, AreOctets}
use Rattle.zone.proofs.Every.{every_each}

pub octet_below : (s : List ℕ) → AreOctets s → (i : ℕ) → get_or s i 0 < 256
unfolding every is_octet
octet_below [] small i = omega arith
octet_below (c ∷ s) small zero = ltb-true c 256 (and_both (is_octet c) (every is_octet s) small).0
octet_below (c ∷ s) small (suc i) = octet_below s (and_both (is_octet c) (every is_octet s) small).1 i

-- what the language says of a lent slice, place by place
pub lent_octets : (w : List ℕ) → ((i : ℕ) → get_or w i 0 < 256) → AreOctets w
unfolding is_octet
lent_octets w h = every_each is_octet w (λ i k. lt-ltb (get_or w i 0) 256 (h i))

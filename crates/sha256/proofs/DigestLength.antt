-- A digest has 32 octets.
use Prim.Native.Nat.{ℕ, zero, suc, ◌*◌, ◌/◌}
use mathlib.Core.Path.{◌≡◌, refl, ap, ◌∙◌}
use mathlib.Core.List.{List}
use lib.ListN.{length, take, drop}
use Rattle.sha256.specs.Constants.{H0}
use Rattle.sha256.specs.Padding.{padded}
use Rattle.sha256.specs.Hash.{added, compressed, hashed, chained, sha256}
use Rattle.sha256.proofs.OctetLaws.{length-joined}

eight : (n : ℕ) (H M : List ℕ) → length H ≡ 8 → length (hashed n H M) ≡ 8
unfolding hashed compressed added
eight zero H M h = h
eight (suc n) H M h = eight n (compressed H (take 64 M)) (drop 64 M) refl

eight_words : length H0 ≡ 8
unfolding H0
eight_words = refl

pub digest_length : (m : List ℕ) → length (sha256 m) ≡ 32
unfolding sha256 chained
digest_length m =
    let M = padded m in
    let h : length (hashed (length M / 64) H0 M) ≡ 8 = eight (length M / 64) H0 M eight_words in
    length-joined (hashed (length M / 64) H0 M) ∙ ap (λ (k : ℕ). 4 * k) h

-- SHA-256: FIPS 180-4, 6.2, in the paper's words and order. M is the block, W the schedule, a to h the working variables.
use Rattle.std.specs.Prelude.{List, [], ◌∷◌, ◌++◌, ℕ, zero, suc, ◌-◌, ◌/◌, length, get_or, take, drop}
use Rattle.sha256_words.specs.Words.{◌⊞◌}
use Rattle.sha256_words.specs.Functions.{Ch, Maj, Σ0, Σ1, σ0, σ1}
use Rattle.sha256.specs.Constants.{K, H0}
use Rattle.sha256.specs.Padding.{padded}
use Rattle.sha256.specs.Parsing.{word, joined}
use Rattle.sha256.specs.declared.rounds.Working.{Working}

-- f 0, f 1 and so on, n of them
unfoldable pub up_to : (ℕ → ℕ) → ℕ → List ℕ
up_to f zero = []
up_to f (suc n) = up_to f n ++ (f n ∷ [])

-- 6.2.2, step 1: W_t, for t from 16 on, of the words before it
unfoldable pub next_word : ℕ → List ℕ → ℕ
next_word t W = σ1 (get_or W (t - 2) 0) ⊞ get_or W (t - 7) 0 ⊞ σ0 (get_or W (t - 15) 0) ⊞ get_or W (t - 16) 0

-- n words more
unfoldable pub extended : ℕ → List ℕ → List ℕ
extended zero W = W
extended (suc n) W = extended n (W ++ (next_word (length W) W ∷ []))

-- W_0 to W_15 are the block's words, and W_16 to W_63 follow
unfoldable pub schedule : List ℕ → List ℕ
schedule M = extended 48 (up_to (word M) 16)

-- step 2: the working variables are the words of the hash value
unfoldable pub started : List ℕ → Working
started H =
    record {
      a = get_or H 0 0;
      b = get_or H 1 0;
      c = get_or H 2 0;
      d = get_or H 3 0;
      e = get_or H 4 0;
      f = get_or H 5 0;
      g = get_or H 6 0;
      h =
          get_or H 7 0;
    }

-- step 3: T1 and T2, of the constant K_t, the word W_t and the working variables
unfoldable pub T1 : ℕ → ℕ → Working → ℕ
T1 k w s = s.h ⊞ Σ1 s.e ⊞ Ch s.e s.f s.g ⊞ k ⊞ w

unfoldable pub T2 : Working → ℕ
T2 s = Σ0 s.a ⊞ Maj s.a s.b s.c

-- one t of step 3
unfoldable pub round : ℕ → ℕ → Working → Working
round k w s =
    record { a = T1 k w s ⊞ T2 s; b = s.a; c = s.b; d = s.c; e = s.d ⊞ T1 k w s; f = s.e; g = s.f; h = s.g }

-- all of them, along the constants and the schedule
unfoldable pub rounds : List ℕ → List ℕ → Working → Working
rounds [] W s = s
rounds (k ∷ ks) [] s = s
rounds (k ∷ ks) (w ∷ W) s = rounds ks W (round k w s)

-- step 4: the intermediate hash value, of the working variables and the hash value before
unfoldable pub added : Working → List ℕ → List ℕ
added s H =
    (s.a ⊞ get_or H 0 0) ∷ (s.b ⊞ get_or H 1 0) ∷ (s.c ⊞ get_or H 2 0) ∷ (s.d ⊞ get_or H 3 0) ∷
    (s.e ⊞ get_or H 4 0) ∷ (s.f ⊞ get_or H 5 0) ∷ (s.g ⊞ get_or H 6 0) ∷ (s.h ⊞ get_or H 7 0) ∷ []

-- steps 1 to 4 for one block
unfoldable pub compressed : List ℕ → List ℕ → List ℕ
compressed H M = added (rounds K (schedule M) (started H)) H

-- n blocks, one after the other
unfoldable pub hashed : ℕ → List ℕ → List ℕ → List ℕ
hashed zero H M = H
hashed (suc n) H M = hashed n (compressed H (take 64 M)) (drop 64 M)

-- all whole blocks of a padded message
unfoldable pub chained : List ℕ → List ℕ → List ℕ
chained H M = hashed (length M / 64) H M

-- the message digest of a list of octets, as 32 octets
unfoldable pub sha256 : List ℕ → List ℕ
sha256 m = joined (chained H0 (padded m))

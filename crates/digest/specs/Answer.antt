-- What the digest's call answers and leaves, in document 01's terms: "Refusal numbers", 1 and 16.
use Rattle.std.specs.Prelude.{Result}
use Rattle.refusal.specs.declared.Refusal.{Refusal}
use Rattle.std.specs.Prelude.{List, ◌≡◌, ℕ, leb, length}
use Rattle.refusal.specs.Outcome.{unless}
use Rattle.refusal.specs.Length.{Length, length_of}
use Rattle.refusal.specs.Output.{write_answer, write_out}
use Rattle.sha256.specs.Hash.{sha256}

-- 1 for an input over 65,535 octets, then 16 for an output under 32; else 32 octets are written
unfoldable pub digest_answer : List ℕ → List ℕ → Length
digest_answer input out = write_answer (unless (leb (length input) 65535) 1 0) 32 out

-- a refusal changes no octet, a success the first 32 and no others
unfoldable pub digest_out : List ℕ → List ℕ → List ℕ
digest_out input out = write_out (unless (leb (length input) 65535) 1 0) 32 (sha256 input) out

-- the whole promise: the answer, and what the output holds afterwards
pub record Digests (input out after : List ℕ) (r : Result ℕ Refusal) : Type 0 where
  pub answer : length_of r ≡ digest_answer input out
  pub output : after ≡ digest_out input out

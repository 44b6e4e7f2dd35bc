-- What is lent: octets.
use Rattle.std.specs.Prelude.{ℕ, ◌≡◌, Bool, true, List, ltb}
use Rattle.zone.specs.Alphabet.{every}

-- every lent byte is below 256
unfoldable pub is_octet : ℕ → Bool
is_octet c = ltb c 256

abbrev pub AreOctets : List ℕ → Type 0
AreOctets w = every is_octet w ≡ true

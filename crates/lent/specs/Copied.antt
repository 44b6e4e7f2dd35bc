-- What a range holds after another is copied to its front.
use Rattle.std.specs.Prelude.{List, ◌++◌, ℕ, length, take, drop}

-- as many octets of the one as the range has, and then the range's own
abbrev pub copied : List ℕ → List ℕ → List ℕ
copied to from = take (length to) from ++ drop (length from) to

-- the same from a place on
abbrev pub copied_at : List ℕ → ℕ → List ℕ → List ℕ
copied_at to at from = take at to ++ copied (drop at to) from

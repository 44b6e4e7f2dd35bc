-- The versions of the LDS, document 02, 2026-04: "Newer chips say `0108` in EF.COM. [..] Keep both".
use Rattle.std.specs.Prelude.{ℕ, List, [], ◌∷◌}

-- which of them a reader knows: `0107` alone, as before the request, or both
pub data Known : Type 0 where
  former : Known
  both : Known

-- `0107`
abbrev pub lds17 : List ℕ
lds17 = 0x30 ∷ 0x31 ∷ 0x30 ∷ 0x37 ∷ []

-- `0108`
abbrev pub lds18 : List ℕ
lds18 = 0x30 ∷ 0x31 ∷ 0x30 ∷ 0x38 ∷ []

-- Stages 1 and 2 of a presentation: size, and the outer walk over EF.COM, the content of the security object, then group files,
-- joined.
use Rattle.std.specs.Prelude.{ℕ, zero, suc, cond, List, [], ◌∷◌, leb, length, get_or}
use Rattle.refusal.specs.Numbers.{by}
use Rattle.refusal.specs.Outcome.{Outcome, unless}
use Rattle.tlv.specs.declared.Stretch.{Stretch}
use Rattle.tlv.specs.Read.{Read, value, refusal, and_then, checked}
use Rattle.tlv.specs.Element.{element}
use Rattle.outer.specs.declared.Outer.{Outer}
use Rattle.outer.specs.declared.File.{File}
use Rattle.tlv.specs.Tags.{is_group}
use Rattle.tlv.specs.Tags as Tag

-- 1: a presentation over 65,535, at 0
unfoldable pub size_check : List ℕ → Outcome
size_check w = unless (leb (length w) 65535) 1 0

-- the file that stands at a place: a group's tag, and a value that ends within the bytes
unfoldable pub file_at : List ℕ → ℕ → Read Stretch
file_at w at = cond (is_group (get_or w at 0)) (element w at (get_or w at 0)) (refusal (by 10) at)

-- then group tags only, every file ending within the bytes; here at most so many steps, of which the last finds the end
unfoldable pub files_from : ℕ → List ℕ → ℕ → Read (List File)
files_from zero w at = refusal (by 10) at
files_from (suc more) w at =
    cond (leb (length w) at) (value [])
    (and_then (file_at w at) (λ held. and_then (files_from more w held.to)
    (λ rest. value (record { start = at; held = held } ∷ rest))))

-- no file is empty, so that there are no more of them than octets
unfoldable pub files : List ℕ → ℕ → Read (List File)
files w at = files_from (suc (length w)) w at

-- tag 60, tag 30, then the files
unfoldable pub outer : List ℕ → Read Outer
outer w =
    and_then (element w 0 Tag.ef_com) (λ efcom.
    and_then (element w efcom.to Tag.sequence) (λ object.
    and_then (files w object.to) (λ all. value (record { efcom = efcom; object = object }))))

-- both stages
unfoldable pub walked : List ℕ → Read Outer
walked w = checked (size_check w) (outer w)

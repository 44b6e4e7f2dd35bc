-- No words of the paper: what is left to do from one step of the code on.
use Rattle.std.specs.Prelude.{ℕ, List}
use Rattle.tlv.specs.declared.Stretch.{Stretch}
use Rattle.tlv.specs.Read.{Read, value, and_then, checked}
use Rattle.tlv.specs.Element.{element}
use Rattle.tlv.specs.Tags as Tag
use Rattle.outer.specs.declared.Outer.{Outer}
use Rattle.outer.specs.Outer.{size_check, files}

-- size, EF.COM and the security object, before the files
abbrev pub behind_ef_com : List ℕ → Stretch → Read Outer
behind_ef_com w efcom = and_then (element w efcom.to Tag.sequence) (λ object. value (record { efcom = efcom; object = object }))

unfoldable pub front : List ℕ → Read Outer
front w = checked (size_check w) (and_then (element w 0 Tag.ef_com) (λ efcom. behind_ef_com w efcom))

-- the outer walk behind them
abbrev pub behind_object : List ℕ → Outer → Read Outer
behind_object w o = and_then (files w o.object.to) (λ all. value o)

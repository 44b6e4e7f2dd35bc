-- The length that was told.
use Rattle.std.specs.Prelude.{Option, Some, None}
use Rattle.tlv.specs.declared.Count.{Count}

-- 0 where none was
unfoldable pub count_in : Option Count → Count
count_in (Some z) = z
count_in None = record { count = 0; told = 0 }

-- Whether EF.COM and the security object agree, document 02, 2026-04: "`0107` goes with object version 0, `0108` with version 1
-- and strings equal to EF.COM's."
use Rattle.std.specs.Prelude.{ℕ, Bool, not, ◌&&◌, List}
use Rattle.refusal.specs.Outcome.{Outcome, unless}
use Rattle.tlv.specs.Cut.{cut}
use Rattle.tlv.specs.Versions.{lds18}
use Rattle.lent.specs.Octets.{alike}
use Rattle.efcom.specs.declared.Common.{Common}
use Rattle.object.specs.declared.strings.Version.{Version}
use Rattle.object.specs.declared.strings.Version.TheVariants.{Zero, One}

-- newer: EF.COM says `0108`
unfoldable pub agrees : List ℕ → Common → Version → Bool
agrees w c Zero = not c.newer
agrees w c (One t) = c.newer && (alike (cut w t.lds) lds18 && alike (cut w t.unicode) (cut w c.unicode))

-- "19, versions or strings disagree, at the object's start"
unfoldable pub versions_check : List ℕ → (start : ℕ) → Common → Version → Outcome
versions_check w start c x = unless (agrees w c x) 19 start

-- The places that each field of a header has by its type.
use Prim.Native.Nat.{◌≤◌}
use mathlib.Core.Path.{◌≡◌}
use mathlib.Core.Bool.{true}
use borrow.Author.Tests.{le-leb}
use lib.ListN.{length}
use Rattle.zone.specs.Rooms.{state_room}
use Rattle.seal_header.specs.declared.header.Header.{Header}
use Rattle.seal_writing.specs.Carried.{is_shaped}

pub shaped : (h : Header) → length h.country ≡ state_room → length h.signer ≡ 4 → length h.reference ≡ 255
    → h.reference_len ≤ 255 → is_shaped h ≡ true
unfolding is_shaped
shaped h country signer reference most = rw (country, signer, reference, le-leb h.reference_len 255 most)

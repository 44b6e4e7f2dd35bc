-- No second answer meets the promise of a call that answers an element, the outer parts, EF.COM or the security object.
use Rattle.tlv.proofs.Told.{read_tells}
use Rattle.tlv.specs.Read.{read_of}
use Rattle.std.specs.Prelude.{Result}
use Rattle.refusal.specs.declared.Refusal.{Refusal}
use Prim.Native.Nat.{ℕ}
use mathlib.Core.Path.{◌≡◌, ap, sym, ◌∙◌}
use mathlib.Core.List.{List}
use Rattle.tlv.specs.declared.Stretch.{Stretch}
use Rattle.tlv.specs.Element.{behind_tag, ends_within, element}
use Rattle.tlv.specs.Versions.{both}
use Rattle.efcom.specs.declared.Common.{Common}
use Rattle.efcom.specs.EfCom.{read_ef_com}
use Rattle.object.specs.declared.Object.{Object}
use Rattle.object.specs.Object.{read_object}
use Rattle.object.specs.Inner.Seen.{kept}
use Rattle.outer.specs.declared.Outer.{Outer}
use Rattle.outer.specs.Outer.{file_at, walked}

-- of an element's value, as of any other
pub taken_tells : (r q : Result Stretch Refusal) → read_of r ≡ read_of q → r ≡ q
taken_tells r q e = read_tells r q e

pub only_element : (s : List ℕ) (at tag : ℕ) (r q : Result Stretch Refusal) → read_of r ≡ element s at tag
    → read_of q ≡ element s at tag → r ≡ q
only_element s at tag r q e f = read_tells r q (e ∙ sym f)

pub only_behind_tag : (s : List ℕ) (at width : ℕ) (r q : Result Stretch Refusal) → read_of r ≡ behind_tag s at width
    → read_of q ≡ behind_tag s at width → r ≡ q
only_behind_tag s at width r q e f = read_tells r q (e ∙ sym f)

pub only_ends_within : (s : List ℕ) (at from to : ℕ) (r q : Result Stretch Refusal) → read_of r ≡ ends_within s at from to
    → read_of q ≡ ends_within s at from to → r ≡ q
only_ends_within s at from to r q e f = read_tells r q (e ∙ sym f)

pub only_file : (w : List ℕ) (at : ℕ) (r q : Result Stretch Refusal) → read_of r ≡ file_at w at → read_of q ≡ file_at w at → r ≡ q
only_file w at r q e f = read_tells r q (e ∙ sym f)

pub only_efcom : (w : List ℕ) (v : Stretch) (r q : Result Common Refusal) → read_of r ≡ read_ef_com both w v
    → read_of q ≡ read_ef_com both w v → r ≡ q
only_efcom w v r q e f = read_tells r q (e ∙ sym f)

pub only_walk : (w : List ℕ) (r q : Result Outer Refusal) → read_of r ≡ walked w → read_of q ≡ walked w → r ≡ q
only_walk w r q e f = read_tells r q (e ∙ sym f)

pub only_object : (w : List ℕ) (v : Stretch) (r q : Result Object Refusal) → read_of r ≡ kept (read_object both w v)
    → read_of q ≡ kept (read_object both w v) → r ≡ q
only_object w v r q e f = read_tells r q (e ∙ sym f)

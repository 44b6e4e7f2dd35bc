-- DEMAND 2, after stage 4: EF.COM and the security object agree exactly when the object's inside is that of EF.COM's version,
-- with strings equal to EF.COM's.
use Prim.Native.Nat.{ℕ}
use mathlib.Core.Path.{◌≡◌, refl, ap, sym, ◌∙◌}
use mathlib.Core.Bool.{Bool, true, false}
use mathlib.Core.List.{List}
use Rattle.lent.specs.Octets.{alike}
use Rattle.lent.proofs.Bools.{and_both, both_and, not_true, not_so}
use Rattle.tlv.specs.Cut.{cut}
use Rattle.tlv.specs.Versions.{lds18}
use Rattle.efcom.specs.declared.Common.{Common}
use Rattle.object.specs.declared.strings.Version.{Version}
use Rattle.object.specs.declared.strings.Version.TheVariants.{Zero, One}
use Rattle.chip.specs.Versions.{agrees}
use Rattle.presentation_theorems.specs.Presented.{Signed, lds_of, strings_of, object_inside}
use Rattle.presentation_theorems.proofs.Elements.{alike_same, same_alike}
use Rattle.presentation_theorems.proofs.StringsBehind.{VersionIn}

lds_newer : lds_of true ≡ lds18
unfolding lds_of
lds_newer = refl

module _ (w : List ℕ) (c : Common) (digits : List ℕ) (six : cut w c.unicode ≡ digits) where
  -- an object that agrees has the inside that EF.COM asks for
  pub agreed : (newer followed : Bool) (xs : List Signed) (lds unicode : List ℕ) (y : Version) → agrees w c y ≡ true
      → VersionIn w newer lds unicode y
      → object_inside newer followed xs lds unicode ≡ object_inside c.newer followed xs (lds_of c.newer) digits
  unfolding agrees VersionIn object_inside strings_of
  agreed newer followed xs lds unicode Zero e k = let no : c.newer ≡ false = not_true c.newer e in rw (k, no)
  agreed newer followed xs lds unicode (One t) e k =
      let a = and_both c.newer _ e in
      let b = and_both (alike (cut w t.lds) lds18) (alike (cut w t.unicode) (cut w c.unicode)) a.1 in
      let one : lds ≡ lds18 = sym k.1.string_cut ∙ alike_same (cut w t.lds) lds18 b.0 in
      let two : unicode ≡ digits = sym k.2.string_cut
      ∙ alike_same (cut w t.unicode) (cut w c.unicode) b.1 ∙ six in
      rw (k.0, a.0, one, two, lds_newer)

  -- and back
  pub agreeing : (newer : Bool) (y : Version) → c.newer ≡ newer → VersionIn w newer (lds_of newer) digits y → agrees w c y ≡ true
  unfolding agrees VersionIn
  agreeing newer Zero e k = not_so c.newer (e ∙ k)
  agreeing newer (One t) e k =
      both_and (e ∙ k.0)
      (both_and (same_alike (cut w t.lds) lds18 (k.1.string_cut ∙ ap lds_of k.0 ∙ lds_newer))
      (same_alike (cut w t.unicode) (cut w c.unicode) (k.2.string_cut ∙ sym six)))

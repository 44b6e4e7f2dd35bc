-- Which version EF.COM says: one of the two known, by what it is held against.
use mathlib.Core.Path.{◌≡◌, refl, sym}
use mathlib.Core.Bool.{Bool, true, false, not, ◌&&◌, ◌||◌}
use mathlib.Core.List.{List}
use Prim.Native.Nat.{ℕ}
use Rattle.refusal.specs.Outcome.{passed, unless}
use Rattle.refusal.proofs.Outcomes.{refused_not_passed}
use Rattle.lent.specs.Octets.{alike}
use Rattle.tlv.specs.declared.Stretch.{Stretch}
use Rattle.tlv.specs.Cut.{cut, has_octets}
use Rattle.tlv.specs.Versions.{both, lds17, lds18}
use Rattle.efcom.specs.EfCom.{is_version}

-- a length, and either of two contents
either : (four a b : Bool) → (four && a) || (four && b) ≡ four && (a || b)
either true a b = refl
either false a b = refl

same_newer : (four a b : Bool) (at : ℕ) → passed ≡ unless ((four && a) || (four && b)) 11 at → not (four && a) ≡ not a
same_newer true a b at e = refl
same_newer false a b at e = absurd (refused_not_passed (sym e))

module _ (s : List ℕ) (v : Stretch) where
  pub either_version : (has_octets 4 v && alike (cut s v) lds17) || (has_octets 4 v && alike (cut s v) lds18)
      ≡ is_version both s v
  unfolding is_version
  either_version = either (has_octets 4 v) (alike (cut s v) lds17) (alike (cut s v) lds18)

  -- one of the two is the newer where it is not the older
  pub newer_told : (at : ℕ)
      → passed ≡ unless ((has_octets 4 v && alike (cut s v) lds17) || (has_octets 4 v && alike (cut s v) lds18)) 11 at
      → not (has_octets 4 v && alike (cut s v) lds17) ≡ not (alike (cut s v) lds17)
  newer_told at e = same_newer (has_octets 4 v) (alike (cut s v) lds17) (alike (cut s v) lds18) at e

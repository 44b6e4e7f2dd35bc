-- What a C host may rely on of `lamphudet_full_name`: the octets at its stretch, in the range that it is from, are the name
-- (`name_octets`) and stand in it (`name_in_range`); 1 and 2 and 0 are told as the sentence says (`name_from_file`,
-- `name_from_text`, `name_from_none`).
use Prim.Native.Nat.{ℕ, ◌+◌, ◌≤◌}
use mathlib.Core.Path.{◌≡◌, refl, ap}
use mathlib.Core.Logic.{◌↔◌}
use mathlib.Core.List.{List}
use native.Mathlib.Omega.{arith}
use lib.ListN.{length, take, drop}
use lib.Seq.{drop-nil, take-nil}
use Rattle.refusal.specs.Outcome.{passed}
use Rattle.zone.specs.Octets.{AreOctets}
use Rattle.zone.specs.declared.form.Source.TheVariants.{Alone}
use Rattle.text.specs.Read.{read_text}
use Rattle.tlv.specs.Cut.{cut}
use Rattle.full_name.specs.declared.From.{From}
use Rattle.full_name.specs.declared.From.TheVariants.{Nowhere, File, Text}
use Rattle.full_name.specs.FullName.{full_name, part_of, full_name_part}
use Rattle.border.specs.declared.received.NameInC as received
use Rattle.border.specs.Calls.{stretch_in_c}
use Rattle.border.specs.Details.{source_in_c, name_in_c}
use Rattle.detail_theorems.specs.NameHeld.{HeldInFile}
use Rattle.detail_theorems.specs.Range.{range_of}
use Rattle.detail_theorems.proofs.FullName.{name_in_file, name_in_text, name_nowhere}
use Rattle.detail_theorems.proofs.Within.{name_within_range}
use Rattle.demands.specs.InC.{range_in_c}

-- each source has its number
source_told : (x y : From) → source_in_c x ≡ source_in_c y → x ≡ y
unfolding source_in_c
source_told Nowhere Nowhere e = refl
source_told Nowhere File e = absurd (omega (arith, e))
source_told Nowhere Text e = absurd (omega (arith, e))
source_told File Nowhere e = absurd (omega (arith, e))
source_told File File e = refl
source_told File Text e = absurd (omega (arith, e))
source_told Text Nowhere e = absurd (omega (arith, e))
source_told Text File e = absurd (omega (arith, e))
source_told Text Text e = refl

module _ (file text : List ℕ) where
  abbrev in_name : received.NameInC
  in_name = name_in_c (full_name file text)

  range_same : (x : From) → range_in_c (source_in_c x) file text ≡ range_of x file text
  unfolding range_in_c source_in_c range_of
  range_same Nowhere = refl
  range_same File = refl
  range_same Text = refl

  -- the part that the library returns is the one that C finds
  pub name_octets : take in_name.stretch.length (drop in_name.stretch.start (range_in_c in_name.from file text))
      ≡ full_name_part file text
  unfolding name_in_c stretch_in_c full_name_part part_of cut range_in_c source_in_c
  name_octets = go (full_name file text).from refl
    where
      go : (x : From) → (full_name file text).from ≡ x
          → take in_name.stretch.length (drop in_name.stretch.start (range_in_c in_name.from file text))
          ≡ part_of (full_name file text) file text
      go Nowhere e = rw (e, drop-nil) (take-nil in_name.stretch.length)
      go File e = rw e
      go Text e = rw e

  pub name_in_range : in_name.stretch.start + in_name.stretch.length ≤ length (range_in_c in_name.from file text)
  unfolding name_in_c stretch_in_c
  name_in_range =
      let w = name_within_range file text in
      rw (range_same (full_name file text).from) (omega (arith, w.forward, w.ends))

  module _ (octets : AreOctets file) where
    pub name_from_file : (name : List ℕ)
        → ((in_name.from ≡ 1) × (full_name_part file text ≡ name)) ↔ HeldInFile file name
    unfolding name_in_c source_in_c
    name_from_file name = (
      λ h. (name_in_file file text octets name).1 (source_told (full_name file text).from File h.0, h.1),
      λ h. let k = (name_in_file file text octets name).0 h in (ap source_in_c k.0, k.1),
    )

    pub name_from_text : (in_name.from ≡ 2)
        ↔ (((name : List ℕ) → HeldInFile file name → ⊥) × ((read_text Alone text).outcome ≡ passed))
    unfolding name_in_c source_in_c
    name_from_text = (
      λ h. (name_in_text file text octets).0 (source_told (full_name file text).from Text h),
      λ h. ap source_in_c ((name_in_text file text octets).1 h),
    )

    pub name_from_none : (in_name.from ≡ 0)
        ↔ (((name : List ℕ) → HeldInFile file name → ⊥) × ((read_text Alone text).outcome ≡ passed → ⊥))
    unfolding name_in_c source_in_c
    name_from_none = (
      λ h. (name_nowhere file text octets).0 (source_told (full_name file text).from Nowhere h),
      λ h. ap source_in_c ((name_nowhere file text octets).1 h),
    )

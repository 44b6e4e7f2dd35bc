-- Where a group's file stands is what stands before the files, and then these (`group-behind`, `group-without`).
use Rattle.outer.specs.declared.File.{File}
use Prim.Native.Nat.{ℕ}
use mathlib.Core.Path.{◌≡◌, refl, ap, ◌∙◌}
use mathlib.Core.List.{List}
use Rattle.refusal.specs.Numbers.{Why}
use Rattle.tlv.specs.Read.{Read, value, refusal, and_then}
use Rattle.outer.specs.declared.Outer.{Outer}
use Rattle.outer.specs.Outer.{files}
use Rattle.outer.specs.Inner.Onward.{front, behind_object}
use Rattle.outer.proofs.BeforeFiles.{front_walked}
use Rattle.chip.specs.Presentation.{first_file, file_or_none, group_stretch}
use Rattle.chip.specs.Inner.Found.{or_found}

module _ (w : List ℕ) (group : ℕ) where
  -- the first file of the group, once the files are walked
  abbrev looked : Outer → Read File
  looked o = and_then (files w o.object.to) (λ fs. first_file w group fs)

  pub group_behind : (o : Outer) → front w ≡ value o
      → group_stretch w group ≡ or_found w group (record { from = 0; to = 0 }) (files w o.object.to)
  unfolding group_stretch file_or_none or_found and_then
  group_behind o e =
      ap (λ (m : Read Outer). file_or_none (and_then m looked))
      (front_walked w ∙ ap (λ (m : Read Outer). and_then m (λ x. behind_object w x)) e)
      ∙ go (files w o.object.to) refl
    where
      go : (m : Read (List File)) → files w o.object.to ≡ m
          → file_or_none (and_then (and_then m (λ all. value o)) looked) ≡ or_found w group (record { from = 0; to = 0 }) m
      go (value fs) q = ap (λ (m : Read (List File)). file_or_none (and_then m (λ l. first_file w group l))) q
      go (refusal n p) q = refl

  pub group_without : (n : Why) (p : ℕ) → front w ≡ refusal n p → group_stretch w group ≡ record { from = 0; to = 0 }
  unfolding group_stretch file_or_none and_then
  group_without n p e =
      ap (λ (m : Read Outer). file_or_none (and_then m looked))
      (front_walked w ∙ ap (λ (m : Read Outer). and_then m (λ x. behind_object w x)) e)

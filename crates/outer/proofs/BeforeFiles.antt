-- Both stages are what stands before the files, and then these (`front_walked`).
use Prim.Native.Nat.{ℕ}
use mathlib.Core.Path.{◌≡◌, refl, ap, sym, ◌∙◌}
use mathlib.Core.List.{List}
use Rattle.refusal.specs.Outcome.{Outcome, passed, refused}
use Rattle.tlv.specs.Read.{Read, and_then, checked}
use Rattle.tlv.specs.Element.{element}
use Rattle.tlv.specs.Tags as Tag
use Rattle.tlv.proofs.Joined.{then_then, then_same}
use Rattle.outer.specs.Outer.{size_check, outer, walked}
use Rattle.outer.specs.Inner.Onward.{behind_ef_com, front, behind_object}

checked_then : {A B : Type 0} (o : Outcome) (m : Read A) (go : A → Read B) → and_then (checked o m) go ≡ checked o (and_then m go)
unfolding and_then checked
checked_then passed m go = refl
checked_then (refused n p) m go = refl

pub front_walked : (w : List ℕ) → walked w ≡ and_then (front w) (λ o. behind_object w o)
unfolding walked outer front and_then
front_walked w =
    let efcom = element w 0 Tag.ef_com in
    sym (checked_then (size_check w) (and_then efcom (λ e. behind_ef_com w e)) (λ o. behind_object w o)
    ∙ ap (checked (size_check w)) (then_then efcom (λ e. behind_ef_com w e) (λ o. behind_object w o)
    ∙ then_same efcom _ _ (λ e q. then_then (element w e.to Tag.sequence) _ (λ o. behind_object w o))))

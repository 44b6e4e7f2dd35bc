-- The signature zone: it is read exactly where its encoding stands last, and then its stretch ends with the seal.
use Prim.Native.Nat.{ℕ, ◌-◌, ◌≤◌}
use mathlib.Core.Path.{◌≡◌, refl, ap, sym, ◌∙◌}
use mathlib.Core.List.{List, [], ◌++◌, append-nil}
use native.Mathlib.Omega.{arith}
use borrow.Author.Tests.{eq-eqb, eqb-true}
use lib.Dec.{eqb}
use lib.ListN.{length, take, drop, length-drop}
use lib.Seq.{drop-length}
use Rattle.refusal.specs.Numbers.{by}
use Rattle.refusal.specs.Outcome.{unless}
use Rattle.refusal.proofs.Outcomes.{unless_kept, kept_unless}
use Rattle.zone.specs.Octets.{AreOctets}
use Rattle.zone.proofs.Octets.{octet_below}
use Rattle.tlv.specs.declared.Stretch.{Stretch}
use Rattle.tlv.specs.Read.{Read, value, checked}
use Rattle.tlv.specs.Element.{tlv, element}
use Rattle.tlv.specs.Cut.{cut}
use Rattle.tlv.proofs.Joined.{first_value, checked_value, value_then, value_checked, same_value}
use Rattle.tlv.proofs.Encoded.{reads}
use Rattle.tlv.proofs.Standing.{last_read, cut_there}
use Rattle.seal_features.specs.Features.{numbered, signature_tag}
use Rattle.seal_features.specs.Signature.{signature_at}
use Rattle.seal_features.proofs.FeaturesPassed.{numbered_value, value_numbered}

pub signature_read : (s : List ℕ) (at : ℕ) → AreOctets s → (v : Stretch) → signature_at s at ≡ value v
    → drop at s ≡ tlv signature_tag (cut s v)
unfolding signature_at cut
signature_read s at small v e =
    let go : Stretch → Read Stretch = λ u. checked (unless (eqb u.to (length s)) 27 at) (value u) in
    let a = first_value (numbered (by 27) (element s at signature_tag)) go v e in
    let u = a.0 in
    let b = checked_value (unless (eqb u.to (length s)) 27 at) (value u) v a.2 in
    let h = reads s at signature_tag (octet_below s small) u (numbered_value (by 27) (element s at signature_tag) u a.1) in
    let c = take (u.to - u.from) (drop u.from s) in
    let end : u.to ≡ length s = eqb-true u.to (length s) (unless_kept (eqb u.to (length s)) 27 at b.0) in
    let none : drop u.to s ≡ [] = rw end (drop-length s) in
    h.octets_there ∙ ap (λ (l : List ℕ). tlv signature_tag c ++ l) none ∙ append-nil (tlv signature_tag c)
    ∙ ap (λ (x : Stretch). tlv signature_tag (take (x.to - x.from) (drop x.from s))) (same_value b.1)

pub read_signature : (s : List ℕ) (at : ℕ) (g : List ℕ) → length s ≤ 65535 → drop at s ≡ tlv signature_tag g
    → (signature_at s at ≡ value (record { from = length s - length g; to = length s }))
    × (cut s (record { from = length s - length g; to = length s }) ≡ g)
unfolding signature_at
read_signature s at g most e =
    let go : Stretch → Read Stretch = λ u. checked (unless (eqb u.to (length s)) 27 at) (value u) in
    let a = last_read s at signature_tag most g e in
    let v = a.0 in
    let h = a.2 in
    let none : length s - v.to ≡ 0 = sym (length-drop v.to s) ∙ ap length h.rest_there in
    let to : v.to ≡ length s = omega (arith, h.ends_within_lem) in
    let from : v.from ≡ length s - length g = omega (arith, h.to_place) in
    let same : ◌≡◌ {A = Stretch} v (record { from = length s - length g; to = length s }) =
    λ i. record { from = from i; to = to i } in (
      value_then (numbered (by 27) (element s at signature_tag)) go v (value v)
          (value_numbered (by 27) (element s at signature_tag) v a.1)
          (value_checked (unless (eqb v.to (length s)) 27 at) (value v) (value v)
          (kept_unless (eqb v.to (length s)) 27 at (eq-eqb v.to (length s) to)) refl)
          ∙ ap (λ (u : Stretch). value u) same,
      ap (cut s) (sym same) ∙ cut_there s at signature_tag g [] v h,
    )

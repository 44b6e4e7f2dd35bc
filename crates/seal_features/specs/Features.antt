-- The features of a seal: document 02, 2026-08, "then features of tag, length and value", lengths as in document 01. "25, a
-- feature wrongly coded or cut off, or feature 02 of another length or a second time, at it".
use Rattle.std.specs.Prelude.{ℕ, zero, suc, Bool, true, cond, ◌&&◌, ◌||◌, List, eqb, leb, length, get_or}
use Rattle.refusal.specs.Numbers.{Why, by}
use Rattle.refusal.specs.Outcome.{unless}
use Rattle.tlv.specs.declared.Stretch.{Stretch}
use Rattle.tlv.specs.Read.{Read, value, refusal, and_then, checked}
use Rattle.tlv.specs.Element.{element}
use Rattle.tlv.specs.Cut.{has_octets}
use Rattle.seal_features.specs.declared.features.Features.{Features}

-- a reading whose refusals have a number of their own
unfoldable pub numbered : {A : Type 0} → Why → Read A → Read A
numbered n (value a) = value a
numbered n (refusal m p) = refusal n p

-- the text of an emergency document, "feature 02 of 48 octets", and the signature, "then FF": FF is no feature's tag
abbrev pub text_tag : ℕ
text_tag = 0x02

abbrev pub signature_tag : ℕ
signature_tag = 0xFF

-- feature 02 has 48 octets and stands once: text is the place of the one that was passed, 0 where none was. (No feature stands at
-- 0, where DC does.) Unknown features are passed over.
unfoldable pub feature_rule : List ℕ → (at text : ℕ) → Stretch → Bool
feature_rule s at text v = cond (eqb (get_or s at 0) text_tag) (has_octets 48 v && eqb text 0) true

unfoldable pub feature_at : List ℕ → (at text : ℕ) → Read Stretch
feature_at s at text =
    and_then (numbered (by 25) (element s at (get_or s at 0))) (λ v. checked (unless (feature_rule s at text v) 25 at) (value v))

-- the features end at FF or, without one, at the seal's end
unfoldable pub is_end : List ℕ → ℕ → Bool
is_end s at = leb (length s) at || eqb (get_or s at 0) signature_tag

unfoldable pub text_place : List ℕ → (at text : ℕ) → ℕ
text_place s at text = cond (eqb (get_or s at 0) text_tag) at text

-- one pass from the left, the first bad one deciding; here at most so many steps, of which the last finds the end
unfoldable pub features_from : ℕ → List ℕ → (at text : ℕ) → Read Features
features_from zero s at text = refusal (by 25) at
features_from (suc more) s at text =
    cond (is_end s at) (value (record { text = text; end = at }))
    (and_then (feature_at s at text) (λ v. features_from more s v.to (text_place s at text)))

-- no feature is empty, so that there are no more of them than octets
unfoldable pub features : List ℕ → ℕ → Read Features
features s at = features_from (suc (length s)) s at 0

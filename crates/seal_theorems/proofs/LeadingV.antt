-- A LEADING V IS 3: document 02, "spaces become fillers and the text is read as TD2, a leading V being 3". A seal that keeps
-- every rule but that its text begins with V is refused by 3 at the feature's first octet.
use Prim.Native.Nat.{ℕ, ◌<◌}
use Prim.Native.Char.{code}
use mathlib.Core.Path.{◌≡◌, refl, ap, ◌∙◌}
use mathlib.Core.Bool.{true}
use mathlib.Core.List.{List, [], ◌∷◌}
use native.Mathlib.Omega.{arith}
use lib.ListN.{length, get_or}
use Rattle.refusal.specs.Numbers.{by}
use Rattle.refusal.specs.Outcome.{refused}
use Rattle.zone.specs.declared.form.Source.TheVariants.{Seal}
use Rattle.zone.specs.Alphabet.{every}
use Rattle.zone.specs.declared.form.Form.TheVariants.{Td2}
use Rattle.zone.specs.Form.{row, is_alone, is_visa, part_of, parts, start, start_in, width, width_in, field}
use Rattle.field.specs.Code.{is_card_letter, card_rule, kind_rule, code_rule}
use Rattle.text_digits.specs.Number.{span_of}
use Rattle.text_digits.specs.Digits.{in_order}
use Rattle.text.specs.Order.{field_rows, field_check, verdict_by}
use Rattle.text.specs.Read.{Answer, read_text, record_by}
use Rattle.c40.specs.Values.{is_c40}
use Rattle.seal_fields.specs.Spaces.{filled}
use Rattle.seal.specs.Seal as seal
use Rattle.seal.specs.Seal.{placed, with_text, answer_by, read_seal}
use Rattle.tlv.specs.Read.{Read, checked}
use Rattle.text.proofs.EachCheck.{answered_outcome}
use Rattle.zone.proofs.FormTold.{told_by_lem}
use Rattle.text_theorems.proofs.Acceptance.{read_as}
use Rattle.seal_fields.proofs.Filled.{length-filled}
use Rattle.seal_theorems.specs.Sealed.{Contents, octets_of, Shaped, feature_place}
use Rattle.seal_theorems.proofs.Acceptance.{shaped_answer}
use Rattle.seal_theorems.proofs.TextCharacters.{filled_passed}

-- TD2 knows no code that begins with V
code_v : (u : List ℕ) → in_order (field_check Td2 (code "V" ∷ u) (span_of Td2 (code "V" ∷ u))) (parts Td2) ≡ refused (by 3) 0
unfolding in_order parts part_of row field_rows code_rule kind_rule card_rule is_card_letter field start start_in width width_in
code_v u = refl

filled_v : (t : List ℕ) → 0 < length t → get_or t 0 0 ≡ code "V" → (u : List ℕ) × (filled t ≡ code "V" ∷ u)
unfolding filled
filled_v [] h e = absurd (omega arith)
filled_v (c ∷ t) h e = (filled t, rw e)

pub text_leading_v : (t : List ℕ) → length t ≡ 72 → every is_c40 t ≡ true → get_or t 0 0 ≡ code "V"
    → (read_text Seal (filled t)).outcome ≡ refused (by 3) 0
unfolding verdict_by row is_alone is_visa
text_leading_v t n p e =
    let l = filled t in
    let v = filled_v t (omega arith) e in
    let span = span_of Td2 l in
    let first : in_order (field_check Td2 l span) (parts Td2) ≡ refused (by 3) 0 =
    ap (λ (m : List ℕ). in_order (field_check Td2 m (span_of Td2 m)) (parts Td2)) v.1 ∙ code_v v.0 in
    ap (λ (a : Answer). a.outcome) (read_as Seal Td2 l (told_by_lem Seal Td2 l refl (length-filled t ∙ n)))
    ∙ answered_outcome (verdict_by Td2 l span) (record_by Td2 l span)
    ∙ rw (filled_passed t p, first)

pub seal_leading_v : (p : Contents) → Shaped p → get_or p.text 0 0 ≡ code "V"
    → (read_seal (octets_of p)).outcome ≡ refused (by 3) (feature_place p)
unfolding read_seal answer_by with_text checked placed
seal_leading_v p k v =
    ap (λ (m : Read seal.Said). (answer_by m).outcome) (shaped_answer p k)
    ∙ rw (text_leading_v p.text k.text_length k.text_c40 v)

-- THE EXPECTED DIGIT of a seal (document 02, 2026-07): a seal is refused by 9 with a digit exactly where its text is, and every
-- refusal 9 carries one; at the C border too. And every refusal has one of a seal's numbers, and a place no further than the end.
use Prim.Native.Nat.{ℕ, ◌≤◌}
use native.Mathlib.Omega.{arith}
use mathlib.Core.Path.{◌≡◌, refl, ap, sym, ◌∙◌}
use mathlib.Core.Logic.{◌↔◌}
use mathlib.Core.Bool.{true, not}
use mathlib.Core.List.{List}
use lib.Dec.{eqb, leb}
use lib.ListN.{length}
use Rattle.zone.specs.declared.form.Source.TheVariants.{Seal}
use Rattle.refusal.specs.Numbers.{Why, by, expecting, number_of}
use Rattle.refusal.specs.Calls.{of_seal, tells}
use Rattle.refusal.specs.Outcome.{Outcome, refused, unless}
use Rattle.refusal.specs.Length as told
use Rattle.refusal.proofs.Calls.{plain_not_nine}
use Rattle.refusal.proofs.Each.{Each, each_unless}
use Rattle.zone.specs.Octets.{AreOctets}
use Rattle.text.specs.Read.{Answer, read_text}
use Rattle.tlv.specs.declared.Stretch.{Stretch}
use Rattle.tlv.specs.Read.{Read, value, and_then, checked, outcome_in}
use Rattle.tlv.proofs.Each.{EachRead, each_value, each_then, each_checked, each_behind}
use Rattle.c40.specs.Field.{is_field}
use Rattle.c40.proofs.Fields.{field_characters}
use Rattle.seal_fields.specs.Spaces.{filled}
use Rattle.seal_header.specs.declared.header.Header.{Header}
use Rattle.seal_header.specs.Header.{header_check, header_of, header_end}
use Rattle.seal_features.specs.Features.{features}
use Rattle.seal_features.specs.Signature.{signature_at}
use Rattle.seal.specs.Seal.{feature_octets, text_in, placed, with_text, said_in, read_seal}
use Rattle.lamphudet_seals.specs.declared.received.SealInC.{SealInC}
use Rattle.lamphudet_seals.specs.Answer.{fields_in_c, seal_in_c, read_seal_in_c}
use Rattle.text_theorems.proofs.Expected.{digit_told}
use Rattle.run_theorems.specs.Expected.{DigitTold}
use Rattle.run_theorems.specs.Expected.{number_told, expected_told, value_told}
use Rattle.run_theorems.proofs.Expected.{entered_told}
use Rattle.seal_theorems.specs.Sealed.{Contents, octets_of, Shaped, feature_place, header_in, signature_in}
use Rattle.seal_theorems.specs.Expected.{Zones, zones_in, FromFeature, FromContents}
use Rattle.seal_theorems.proofs.Stages.{before_text, onwards, through_text}
use Rattle.seal_theorems.proofs.Acceptance.{zones_contents, shaped_answer}
use Rattle.seal_theorems.proofs.Refusals.{header_there, head_each, walk_each, signature_each, placed_each, features_in}
use Rattle.seal_theorems.proofs.FirstFailing.{answer_outcome}
use Rattle.seal_theorems.proofs.TextCharacters.{filled_numbered}

-- what a refusal of a seal tells, at a place no further than the end
abbrev Carries : List ℕ → Why → ℕ → Type 0
Carries s (by n) q = (tells of_seal (by n) ≡ true) × (q ≤ length s)
Carries s (expecting d) q = FromFeature s d q × (q ≤ length s)

-- the text's own refusals stand where the feature does
carries : (s : List ℕ) (z : Zones) → zones_in s ≡ value z → (n : Why) (p : ℕ)
    → (read_text Seal (filled (text_in s z.message))).outcome ≡ refused n p
    → Carries s n z.message.text
unfolding text_in features
carries s z at n p e =
    let k = before_text s z at in
    let f = z.message in
    let in-s = features_in s _ (header_end s) 0 (header_there s k.head_stage) (omega arith) f k.walk_stage in
    go n e k.field_stage in-s.0
  where
    go : (n : Why) → (read_text Seal (filled (text_in s z.message))).outcome ≡ refused n p
        → is_field (feature_octets s z.message) 2 72 ≡ true → z.message.text ≤ length s → Carries s n z.message.text
    go (expecting d) e image h = (record { zones = z; stand = at; own = p; text_refused = e; there = refl }, h)
    go (by n) e image h =
        let c40 = field_characters (feature_octets s z.message) 2 72 image in
        (filled_numbered (text_in s z.message) c40 (by n) p e, h)

-- every refusal that comes before the text's has a plain number of a seal, and a place no further than the end
zones_each : (s : List ℕ) (P : Why → ℕ → Type 0) → ((n q : ℕ) → tells of_seal (by n) ≡ true → q ≤ length s → P (by n) q)
    → EachRead P (zones_in s)
unfolding zones_in features
zones_each s P p =
    each_checked P (unless (leb (length s) 65535) 1 0) _
    (each_unless P (leb (length s) 65535) 1 0 (p 1 0 refl (omega arith)))
    (each_behind P (header_check s) _ (head_each s P p) (λ e.
    let at = header_there s e in
    each_then P (features s (header_end s)) _ (walk_each s P p _ (header_end s) 0 at) (λ f w.
    let there = features_in s _ (header_end s) 0 at (omega arith) f w in
    let image = is_field (feature_octets s f) 2 72 in
    each_checked P (unless (not (eqb f.text 0)) 25 f.end) _
    (each_unless P (not (eqb f.text 0)) 25 f.end (p 25 f.end refl there.1))
    (each_checked P (unless image 26 f.text) _ (each_unless P image 26 f.text (p 26 f.text refl there.0))
    (each_then P (signature_at s f.end) _ (signature_each s P p f.end there.1) (λ v i. each_value P _))))))

outcome_through : (s : List ℕ) → (read_seal s).outcome ≡ outcome_in (and_then (zones_in s) (onwards s))
unfolding read_seal
outcome_through s = answer_outcome (said_in s) ∙ ap outcome_in (through_text s)

seal_carries : (s : List ℕ) → Each (Carries s) (read_seal s).outcome
unfolding onwards with_text
seal_carries s n q e =
    let P = Carries s in
    let p : (n q : ℕ) → tells of_seal (by n) ≡ true → q ≤ length s → P (by n) q = λ n q h k. (h, k) in
    each_then P (zones_in s) (onwards s) (zones_each s P p) (λ z at.
    let o = (read_text Seal (filled (text_in s z.message))).outcome in
    each_checked P (placed z.message.text o) _ (placed_each s P p z.message.text o (carries s z at)) (each_value P _))
    n q (sym (outcome_through s) ∙ e)

-- a text's refusal is the seal's, at the feature
placed_outcome : (h : Header) (at : ℕ) (a : Answer) (v : Stretch) (n : Why) (p : ℕ) → a.outcome ≡ refused n p
    → outcome_in (with_text h at a v) ≡ refused n at
unfolding with_text placed checked outcome_in
placed_outcome h at a v n p e = rw e

-- refused by 9 with a digit, at a place: exactly where its text, in the feature there, is refused by 9 with that digit
pub seal_expected : (s : List ℕ) (d q : ℕ) → ((read_seal s).outcome ≡ refused (expecting d) q) ↔ FromFeature s d q
unfolding onwards and_then
seal_expected s d q = (
  λ e. (seal_carries s (expecting d) q e).0,
  λ t.
      let z = t.zones in
      outcome_through s
      ∙ (ap (λ (m : Read Zones). outcome_in (and_then m (onwards s))) t.stand
      ∙ (placed_outcome (header_of s) z.message.text (read_text Seal (filled (text_in s z.message))) z.signature
      (expecting d) t.own t.text_refused
      ∙ ap (refused (expecting d)) (sym t.there))),
)

-- and of octets, exactly where they are those of contents that keep every rule but those of the text, and their text is
pub seal_expected_of : (s : List ℕ) → AreOctets s → (d q : ℕ)
    → ((read_seal s).outcome ≡ refused (expecting d) q) ↔ FromContents s d q
unfolding read_seal
seal_expected_of s small d q = (
  λ e.
      let t = (seal_expected s d q).0 e in
      let w = zones_contents s small t.zones t.stand in
      let text : (read_text Seal (filled w.0.text)).outcome ≡ refused (expecting d) t.own =
      ap (λ (u : List ℕ). (read_text Seal (filled u)).outcome) w.3 ∙ t.text_refused in
      let back = decided w.0 w.2 d t.own text in
      record {
        contents = w.0;
        octets_so = w.1;
        shaped = w.2;
        own = t.own;
        text_refused = text;
        there = same_place (expecting d) q (feature_place w.0)
            (sym e ∙ (ap (λ (u : List ℕ). (read_seal u).outcome) w.1 ∙ back));
      },
  λ c.
      ap (λ (u : List ℕ). (read_seal u).outcome) c.octets_so
      ∙ (decided c.contents c.shaped d c.own c.text_refused ∙ ap (refused (expecting d)) (sym c.there)),
)
  where
    same_place : (n : Why) (a b : ℕ) → refused n a ≡ refused n b → a ≡ b
    same_place n a b e = cc

    decided : (p : Contents) → Shaped p → (d own : ℕ) → (read_text Seal (filled p.text)).outcome ≡ refused (expecting d) own
        → (read_seal (octets_of p)).outcome ≡ refused (expecting d) (feature_place p)
    decided p k d own e =
        let a = read_text Seal (filled p.text) in
        answer_outcome (said_in (octets_of p))
        ∙ (ap outcome_in (shaped_answer p k)
        ∙ placed_outcome (header_in p.head) (feature_place p) a (signature_in p) (expecting d) own e)

-- every refusal has one of a seal's numbers
pub seal_numbered : (s : List ℕ) → Each (λ why q. tells of_seal why ≡ true) (read_seal s).outcome
seal_numbered s (expecting d) q e = refl
seal_numbered s (by n) q e = (seal_carries s (by n) q e).0

-- at a place no further than the end
pub seal_within : (s : List ℕ) → Each (λ n q. q ≤ length s) (read_seal s).outcome
seal_within s (expecting d) q e = (seal_carries s (expecting d) q e).1
seal_within s (by n) q e = (seal_carries s (by n) q e).1

-- and every refusal 9 carries a digit
pub seal_nine : (s : List ℕ) (n : Why) (q : ℕ) → (read_seal s).outcome ≡ refused n q → number_of n ≡ 9
    → (d : ℕ) × (n ≡ expecting d)
seal_nine s (expecting d) q e h = (d, refl)
seal_nine s (by n) q e h = absurd (plain_not_nine of_seal n (seal_numbered s (by n) q e) h)

-- ---- at the C border

in_c_told : (o : Outcome) (l : told.Length) (h : Header) (v : Stretch)
    → DigitTold o (number_told l) (expected_told l) (value_told l)
    → DigitTold o (seal_in_c l h v).number (seal_in_c l h v).expected (seal_in_c l h v).value
unfolding seal_in_c fields_in_c
in_c_told o (told.written n) h v k = k
in_c_told o (told.refused why p) h v k = k

module _ (house : ℕ) (s out : List ℕ) where
  abbrev answer : SealInC
  answer = read_seal_in_c house s out

  pub seal_digit_told : DigitTold (read_seal s).outcome answer.number answer.expected answer.value
  unfolding read_seal_in_c
  seal_digit_told = in_c_told (read_seal s).outcome _ (read_seal s).header (read_seal s).signature
      (entered_told house (read_seal s).kept out (read_seal s).outcome (seal_nine s) one_digit)
    where
      one_digit : (d q : ℕ) → (read_seal s).outcome ≡ refused (expecting d) q → d ≤ 9
      one_digit d q e =
          let t = (seal_expected s d q).0 e in
          (digit_told Seal (filled (text_in s t.zones.message)) d t.own t.text_refused).2.one_digit

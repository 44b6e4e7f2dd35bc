-- THE ANSWER is the first failing check: reading a seal answers `refused n p` exactly where n at p is the first failing check in
-- the paper's order (`seal_refused_exactly`).
use Prim.Native.Nat.{ℕ, zero, suc, ◌+◌, ◌≤◌, ◌<◌}
use mathlib.Core.Path.{◌≡◌, refl, ap, sym, ◌∙◌}
use mathlib.Core.Logic.{◌↔◌}
use mathlib.Core.Bool.{Bool, true, false, cond, not, ◌&&◌, ◌||◌}
use mathlib.Core.List.{List, [], ◌∷◌, ◌++◌, map}
use native.Mathlib.Omega.{arith}
use lib.Dec.{eqb, leb}
use lib.ListN.{length, get_or}
use Rattle.zone.specs.declared.form.Source.TheVariants.{Seal}
use Rattle.refusal.specs.Numbers.{Why, by}
use Rattle.refusal.specs.Outcome.{Outcome, passed, refused, or_else, unless}
use Rattle.refusal.proofs.Outcomes.{or_else_assoc, or_else_passed, both_passed, unless_kept, kept_unless}
use Rattle.field.specs.Letters.{state_rule}
use Rattle.text.specs.Read.{read_text}
use Rattle.tlv.specs.Read.{Read, value, refusal, and_then, checked, outcome_in}
use Rattle.tlv.specs.Element.{element}
use Rattle.tlv.specs.Cut.{has_octets}
use Rattle.c40.specs.Reader.{Reading, characters, no_image}
use Rattle.c40.specs.Field.{is_of, image_at, is_field}
use Rattle.seal_fields.specs.Day.{day_at}
use Rattle.seal_fields.specs.Spaces.{filled}
use Rattle.seal_header.specs.declared.header.Header.{Header}
use Rattle.seal_header.specs.Reference.{version, width, reference, is_reference}
use Rattle.seal_header.specs.Header.{is_version, country, front_check, back_check, check_by, header_check, header_of, header_end}
use Rattle.seal_features.specs.declared.features.Features.{Features}
use Rattle.seal_features.specs.Features.{numbered, text_tag, signature_tag, feature_rule, feature_at, is_end, text_place}
use Rattle.seal_features.specs.Features.{features_from, features}
use Rattle.seal_features.specs.Signature.{signature_at}
use Rattle.seal.specs.Seal.{Said, feature_octets, text_in, placed, with_text, with_image, with_features, with_header, said_in}
use Rattle.seal.specs.Seal.{answer_by, read_seal}
use Rattle.seal_features.proofs.FeaturesPassed.{not_end}
use Rattle.text_theorems.specs.Ordered.{checks_of, FirstFailing}
use Rattle.text_theorems.proofs.FirstFailing.{read_first}
use Rattle.text_theorems.proofs.FirstOf.{first_of, first_failing, failing_first}
use Rattle.tlv.specs.Places.{stretch_at}
use Rattle.row_theorems.specs.Standing.{is_coded, coded}
use Rattle.row_theorems.proofs.Rows.{under, under_outcome, under_first, under_same, keep, rows_then, first_then, step_known}
use Rattle.row_theorems.proofs.Rows.{step_then, element_row, coded_within}
use Rattle.seal_theorems.specs.SealChecks.{header_checks, feature_value, places_from, end_from, text_among, feature_checks}
use Rattle.seal_theorems.specs.SealChecks.{features_checks, signature_checks, is_image, checks_behind, features_found}
use Rattle.seal_theorems.specs.SealChecks.{seal_checks}

pub answer_outcome : (m : Read Said) → (answer_by m).outcome ≡ outcome_in m
unfolding answer_by outcome_in
answer_outcome (value c) = refl
answer_outcome (refusal n p) = refl

-- an element whose refusals have a number of their own is one row
numbered_row : (n : ℕ) (s : List ℕ) (at tag : ℕ)
    → numbered (by n) (element s at tag) ≡ checked (unless (is_coded s at tag) n at) (value (stretch_at s at tag))
unfolding coded numbered checked
numbered_row n s at tag = ap (numbered (by n)) (element_row s at tag) ∙ go (is_coded s at tag)
  where
    go : (b : Bool)
        → numbered (by n) (checked (unless b 10 at) (value (stretch_at s at tag)))
        ≡ checked (unless b n at) (value (stretch_at s at tag))
    go true = refl
    go false = refl

-- ---- the header

header_first : (s : List ℕ) → header_check s ≡ first_of (header_checks s)
unfolding header_check check_by front_check back_check header_checks first_of
header_first s =
    let w = width s in
    let a = unless (eqb (get_or s 0 0) 0xDC) 24 0 in
    let b = unless (is_version (version s)) 24 1 in
    let c = unless (state_rule (country s)) 24 2 in
    let d = unless (is_reference (reference s)) 24 4 in
    let l = unless (eqb (get_or s (11 + w) 0) 0x03) 24 (11 + w) in
    let r = back_check s w (day_at s (4 + w)) (day_at s (7 + w)) in
    or_else_assoc a (or_else b (or_else c d)) r
    ∙ ap (or_else a) (or_else_assoc b (or_else c d) r ∙ ap (or_else b) (or_else_assoc c d r))
    ∙ rw (or_else_passed l)

-- ---- the features

-- the two sentences on a feature 02 are one rule
rule_rows_lem : {A : Type 0} (b h z : Bool) (n p : ℕ) (m : Read A)
    → checked (unless (cond b (h && z) true) n p) m ≡ checked (unless (not b || h) n p) (checked (unless (not b || z) n p) m)
unfolding checked
rule_rows_lem true true true n p m = refl
rule_rows_lem true true false n p m = refl
rule_rows_lem true false z n p m = refl
rule_rows_lem false h z n p m = refl

module _ (s : List ℕ) where
  feature_rows : (text at : ℕ) → feature_at s at text ≡ under (feature_checks s text at) (value (feature_value s at))
  unfolding feature_at feature_rule feature_checks feature_value under
  feature_rows text at =
      let tag = get_or s at 0 in
      let v = stretch_at s at tag in
      step_known (unless (is_coded s at tag) 25 at ∷ []) (numbered (by 25) (element s at tag)) v _ (numbered_row 25 s at tag)
      ∙ keep (unless (is_coded s at tag) 25 at) (rule_rows_lem (eqb tag text_tag) (has_octets 48 v) (eqb text 0) 25 at (value v))

  -- where its rows pass it ends behind its place and within the seal
  feature_ends : (text at : ℕ) → first_of (feature_checks s text at) ≡ passed
      → (at < (feature_value s at).to) × ((feature_value s at).to ≤ length s)
  unfolding feature_checks feature_value first_of coded
  feature_ends text at e =
      let tag = get_or s at 0 in
      let right = unless_kept (is_coded s at tag) 25 at (both_passed (unless (is_coded s at tag) 25 at) _ e).0 in
      let k = coded_within s at tag (kept_unless (is_coded s at tag) 10 at right) in
      (omega (arith, k.0, k.1), k.2)

  abbrev found : ℕ → (text at : ℕ) → Features
  found more text at = record { text = text_among s text (places_from more s at); end = end_from more s at }

  abbrev rows : ℕ → (text at : ℕ) → List Outcome
  rows more text at = features_checks s text (places_from more s at)

  -- one feature, where the rows of what follows it are known
  one_feature : (more text at : ℕ)
      → ((n : ℕ) → n ≤ length s → at < n
      → features_from more s n (text_place s at text)
      ≡ under (rows more (text_place s at text) n) (value (found more (text_place s at text) n)))
      → and_then (feature_at s at text) (λ v. features_from more s v.to (text_place s at text))
      ≡ under (feature_checks s text at ++ rows more (text_place s at text) (feature_value s at).to)
      (value (found more (text_place s at text) (feature_value s at).to))
  one_feature more text at known =
      let to = (feature_value s at).to in
      let next = text_place s at text in
      step_known (feature_checks s text at) (feature_at s at text) (feature_value s at) _ (feature_rows text at)
      ∙ under_same (feature_checks s text at) (features_from more s to next)
      (under (rows more next to) (value (found more next to)))
      (λ e. let k = feature_ends text at e in known to k.1 k.0)
      ∙ rows_then (feature_checks s text at) (rows more next to) _ (value (found more next to)) refl

  walk_rows : (more text at : ℕ) → at ≤ length s → length s < at + more
      → features_from more s at text ≡ under (rows more text at) (value (found more text at))
  unfolding features_from places_from end_from features_checks text_among under
  walk_rows zero text at h e = absurd (omega arith)
  walk_rows (suc more) text at h e =
      go (is_end s at) (one_feature more text at (λ n a b. walk_rows more (text_place s at text) n a (omega arith)))
    where
      to : ℕ
      to = (feature_value s at).to

      next : ℕ
      next = text_place s at text

      go : (b : Bool)
          → and_then (feature_at s at text) (λ v. features_from more s v.to next)
          ≡ under (feature_checks s text at ++ rows more next to) (value (found more next to))
          → cond b (value (record { text = text; end = at }))
          (and_then (feature_at s at text) (λ v. features_from more s v.to next))
          ≡ under (features_checks s text (cond b [] (at ∷ places_from more s to)))
          (value (record {
            text = text_among s text (cond b [] (at ∷ places_from more s to));
            end = cond b at (end_from more s to);
          }))
      go true f = refl
      go false f = f

  -- one step more than there are octets is enough from any place
  features_rows : (at : ℕ)
      → features s at ≡ under (features_checks s 0 (places_from (suc (length s)) s at)) (value (features_found s at))
  unfolding features features_from features_found places_from end_from features_checks text_among under
  features_rows at = go (is_end s at) refl
    where
      go : (b : Bool) → is_end s at ≡ b
          → features_from (suc (length s)) s at 0
          ≡ under (rows (suc (length s)) 0 at) (value (found (suc (length s)) 0 at))
      go true e = rw e
      go false e = let h = not_end s at e in walk_rows (suc (length s)) 0 at (omega arith) (omega arith)

  -- ---- the signature, and the text behind it

  signature_rows : (at : ℕ) → signature_at s at ≡ under (signature_checks s at) (value (stretch_at s at signature_tag))
  unfolding signature_at signature_checks under
  signature_rows at =
      step_known (unless (is_coded s at signature_tag) 27 at ∷ []) (numbered (by 27) (element s at signature_tag))
      (stretch_at s at signature_tag) _ (numbered_row 27 s at signature_tag)

  -- the text's checks, each at the feature's first octet
  first_placed : (at : ℕ) (os : List Outcome) → placed at (first_of os) ≡ first_of (map (placed at) os)
  unfolding first_of placed
  first_placed at [] = refl
  first_placed at (passed ∷ os) = first_placed at os
  first_placed at (refused n p ∷ os) = refl

  abbrev said : Header → Features → Read Said
  said h f = value (record {
    header = h;
    kept = (read_text Seal (filled (text_in s f))).kept;
    signature = stretch_at s f.end signature_tag;
  })

  -- a text of 72 characters has an image
  image_rows : {A : Type 0} (r : Reading) (k n p : ℕ) (m : Read A)
      → checked (unless (is_of k r) n p) m ≡ checked (unless (is_image r) n p) (checked (unless (is_of k r) n p) m)
  unfolding checked is_image is_of
  image_rows (characters t) k n p m = refl
  image_rows no_image k n p m = refl

  behind_rows : (h : Header) (f : Features) → with_features s h f ≡ under (checks_behind s f) (said h f)
  unfolding with_features with_image with_text checks_behind under is_field
  behind_rows h f =
      let t = filled (text_in s f) in
      let text : placed f.text (read_text Seal t).outcome ≡ first_of (map (placed f.text) (checks_of Seal t)) =
      ap (placed f.text) (read_first Seal t) ∙ first_placed f.text (checks_of Seal t) in
      let image = image_at (feature_octets s f) 2 72 in
      keep (unless (not (eqb f.text 0)) 25 f.end) (image_rows image 72 26 f.text _
      ∙ keep (unless (is_image image) 26 f.text) (keep (unless (is_field (feature_octets s f) 2 72) 26 f.text)
      (step_then (signature_checks s f.end) (map (placed f.text) (checks_of Seal t)) (signature_at s f.end)
      (stretch_at s f.end signature_tag) _ (said h f) (signature_rows f.end)
      (ap (λ (o : Outcome). checked o (said h f)) text ∙ under_first (map (placed f.text) (checks_of Seal t)) (said h f)))))

  -- ---- all of them

  seal_rows : said_in s ≡ under (seal_checks s) (said (header_of s) (features_found s (header_end s)))
  unfolding said_in with_header seal_checks under
  seal_rows =
      let at = header_end s in
      let f = features_found s at in
      let last = said (header_of s) f in
      let walk = features_checks s 0 (places_from (suc (length s)) s at) in
      keep (unless (leb (length s) 65535) 1 0)
      (first_then (header_check s) (header_checks s) (walk ++ checks_behind s f) (with_header s (header_of s) at) last
      (header_first s)
      (step_then walk (checks_behind s f) (features s at) f _ last (features_rows at) (behind_rows (header_of s) f)))

  pub seal_first : (read_seal s).outcome ≡ first_of (seal_checks s)
  unfolding read_seal
  seal_first = answer_outcome (said_in s) ∙ ap (λ (m : Read Said). outcome_in m) seal_rows ∙ under_outcome (seal_checks s) _

pub seal_refused_exactly : (s : List ℕ) (n : Why) (p : ℕ) → ((read_seal s).outcome ≡ refused n p)
    ↔ FirstFailing (seal_checks s) n p
seal_refused_exactly s n p = (
  λ e. first_failing (seal_checks s) n p (sym (seal_first s) ∙ e),
  λ h. seal_first s ∙ failing_first (seal_checks s) n p h,
)

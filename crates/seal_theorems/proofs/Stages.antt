-- The stages of reading a seal, one behind the other: reading a seal is finding its zones (`zones_in`) and then reading its text
-- (`through_text`), and what each stage gave where the zones were found (`before_text`).
use Prim.Native.Nat.{ℕ, ◌≤◌, ◌<◌}
use mathlib.Core.Path.{◌≡◌, refl, ap, sym, ◌∙◌}
use mathlib.Core.Bool.{true, not}
use mathlib.Core.List.{List}
use native.Mathlib.Omega.{arith}
use borrow.Author.Tests.{leb-true}
use lib.Dec.{eqb, leb}
use lib.ListN.{length}
use Rattle.zone.specs.declared.form.Source.TheVariants.{Seal}
use Rattle.refusal.specs.Outcome.{Outcome, passed, refused, unless}
use Rattle.refusal.proofs.Outcomes.{refused_not_passed, unless_kept}
use Rattle.text.specs.Read.{Answer, read_text}
use Rattle.tlv.specs.declared.Stretch.{Stretch}
use Rattle.tlv.specs.Read.{Read, value, refusal, and_then, checked}
use Rattle.tlv.proofs.Joined.{first_value, checked_value, same_value}
use Rattle.c40.specs.Field.{is_field}
use Rattle.seal_fields.specs.Spaces.{filled}
use Rattle.seal_header.specs.declared.header.Header.{Header}
use Rattle.seal_header.specs.Header.{header_check, header_of, header_end}
use Rattle.seal_features.specs.declared.features.Features.{Features}
use Rattle.seal_features.specs.Features.{features}
use Rattle.seal_features.specs.Signature.{signature_at}
use Rattle.seal.specs.Seal as seal
use Rattle.seal.specs.Seal.{text_in, placed, with_text, with_image, with_features, with_header, said_in, answer_by}
use Rattle.row_theorems.proofs.Behind.{then_behind, checked_behind}
use Rattle.seal_theorems.specs.Expected.{Zones, zones_in}

pub some_header : (s : List ℕ) → 0 < header_end s
unfolding header_end
some_header s = omega arith

-- ---- the zones

-- what each stage before the text gave
pub record Before (s : List ℕ) (z : Zones) : Type 0 where
  pub size_stage : length s ≤ 65535
  pub head_stage : header_check s ≡ passed
  pub walk_stage : features s (header_end s) ≡ value z.message
  pub some_stage : not (eqb z.message.text 0) ≡ true
  pub field_stage : is_field (seal.feature_octets s z.message) 2 72 ≡ true
  pub signature_stage : signature_at s z.message.end ≡ value z.signature

-- the steps from the features on
module _ (s : List ℕ) where
  abbrev pub from_signature : Features → Read Zones
  from_signature f = and_then (signature_at s f.end) (λ v. value (record { message = f; signature = v }))

  abbrev pub from_image : Features → Read Zones
  from_image f = checked (unless (is_field (seal.feature_octets s f) 2 72) 26 f.text) (from_signature f)

  abbrev pub from_features : Features → Read Zones
  from_features f = checked (unless (not (eqb f.text 0)) 25 f.end) (from_image f)

  abbrev pub from_header : Read Zones
  from_header = and_then (features s (header_end s)) from_features

pub before_text : (s : List ℕ) (z : Zones) → zones_in s ≡ value z → Before s z
unfolding zones_in
before_text s z e =
    let size = leb (length s) 65535 in
    let a = checked_value (unless size 1 0) (checked (header_check s) (from_header s)) z e in
    let b = checked_value (header_check s) (from_header s) z a.1 in
    let c = first_value (features s (header_end s)) (from_features s) z b.1 in
    let f = c.0 in
    let some = not (eqb f.text 0) in
    let image = is_field (seal.feature_octets s f) 2 72 in
    let d = checked_value (unless some 25 f.end) (from_image s f) z c.2 in
    let g = checked_value (unless image 26 f.text) (from_signature s f) z d.1 in
    let h = first_value (signature_at s f.end) (λ (v : Stretch). value (record { message = f; signature = v })) z g.1 in
    let same : record { message = f; signature = h.0 } ≡ z = same_value h.2 in
    rw (← same) (record {
      size_stage = leb-true (length s) 65535 (unless_kept size 1 0 a.0);
      head_stage = b.0;
      walk_stage = c.1;
      some_stage = unless_kept some 25 f.end d.0;
      field_stage = unless_kept image 26 f.text g.0;
      signature_stage = h.1;
    })

-- ---- and then the text

module _ (s : List ℕ) where
  unfoldable pub onwards : Zones → Read seal.Said
  onwards z = with_text (header_of s) z.message.text (read_text Seal (filled (text_in s z.message))) z.signature

  pub through_text : said_in s ≡ and_then (zones_in s) onwards
  unfolding said_in zones_in with_header with_features with_image onwards and_then
  through_text =
      checked_behind (unless (leb (length s) 65535) 1 0) _ onwards _
      (checked_behind (header_check s) _ onwards _
      (then_behind (features s (header_end s)) _ onwards _ (λ f e.
      checked_behind (unless (not (eqb f.text 0)) 25 f.end) _ onwards _
      (checked_behind (unless (is_field (seal.feature_octets s f) 2 72) 26 f.text) _ onwards _
      (then_behind (signature_at s f.end) _ onwards _ (λ v g. refl))))))

pub passed_text : (h : Header) (at : ℕ) (a : Answer) (v : Stretch) → a.outcome ≡ passed
    → with_text h at a v ≡ value (record { header = h; kept = a.kept; signature = v })
unfolding with_text placed checked
passed_text h at a v e = rw e

-- the text that is read, and that it was accepted
text_passed : (at : ℕ) (o : Outcome) → placed at o ≡ passed → o ≡ passed
unfolding placed
text_passed at passed e = refl
text_passed at (refused n p) e = absurd (refused_not_passed e)

-- what was found of an accepted seal
pub record Stages (s : List ℕ) (c : seal.Said) : Type 0 where
  pub zones : Zones
  pub zones_stage : zones_in s ≡ value zones
  pub text_stage : (read_text Seal (filled (text_in s zones.message))).outcome ≡ passed
  pub kept_stage : c.kept ≡ (read_text Seal (filled (text_in s zones.message))).kept

pub taken_apart : (s : List ℕ) (c : seal.Said) → said_in s ≡ value c → Stages s c
unfolding onwards with_text
taken_apart s c e =
    let a = first_value (zones_in s) (onwards s) c (sym (through_text s) ∙ e) in
    let z = a.0 in
    let t = read_text Seal (filled (text_in s z.message)) in
    let last : seal.Said = record { header = header_of s; kept = t.kept; signature = z.signature } in
    let k = checked_value (placed z.message.text t.outcome) (value last) c a.2 in
    record {
      zones = z;
      zones_stage = a.1;
      text_stage = text_passed z.message.text t.outcome k.0;
      kept_stage = ap (λ (q : seal.Said). q.kept) (sym (same_value k.1));
    }

-- where the answer is that it passed, there are contents
pub passed_value : (m : Read seal.Said) → (answer_by m).outcome ≡ passed
    → (c : seal.Said) × (m ≡ value c) × ((answer_by m).kept ≡ c.kept)
unfolding answer_by
passed_value (value c) e = (c, refl, refl)
passed_value (refusal n p) e = absurd (refused_not_passed e)

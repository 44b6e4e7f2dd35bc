-- A seal of an emergency document: document 02, 2026-08. "The answer is header fields, record and signature. Refusals, in this
-- order: 1, over 65,535 octets, at 0; 24, a header field, ..; 25, a feature ..; 26, the C40 of feature 02 ..; 27, signature zone
-- ..; then those of the text, at the feature's first octet."
use Rattle.std.specs.Prelude.{ℕ, not, List, Result, Ok, Err, eqb, leb, length, take, drop}
use Rattle.refusal.specs.Outcome as outcome
use Rattle.refusal.specs.Outcome.{unless}
use Rattle.refusal.specs.Numbers.{why_of}
use Rattle.refusal.specs.declared.Refusal.{Refusal}
use Rattle.zone.specs.declared.form.Source.TheVariants as source
use Rattle.zone.specs.Record.{blank}
use Rattle.zone.specs.declared.record.Record.{Record}
use Rattle.text.specs.Read.{Answer, read_text}
use Rattle.tlv.specs.declared.Stretch.{Stretch}
use Rattle.tlv.specs.Read.{Read, value, refusal, and_then, checked}
use Rattle.c40.specs.Field.{is_field, field_at}
use Rattle.seal_fields.specs.Spaces.{filled}
use Rattle.seal_header.specs.declared.header.Header.{Header}
use Rattle.seal_header.specs.Header.{header_check, header_of, header_end, blank_header}
use Rattle.seal_features.specs.declared.features.Features.{Features}
use Rattle.seal.specs.declared.read.Seal.{Seal}
use Rattle.seal_features.specs.Features.{features}
use Rattle.seal_features.specs.Signature.{signature_at}

-- what a seal says
pub record Said : Type 0 where
  pub header : Header
  pub kept : Record
  pub signature : Stretch

-- feature 02: its tag, its length, and 48 octets of C40, which are 72 characters
unfoldable pub feature_octets : List ℕ → Features → List ℕ
feature_octets s f = take 50 (drop f.text s)

unfoldable pub text_in : List ℕ → Features → List ℕ
text_in s f = field_at (feature_octets s f) 2 72

-- the text's refusals, at the feature's first octet
unfoldable pub placed : ℕ → outcome.Outcome → outcome.Outcome
placed at outcome.passed = outcome.passed
placed at (outcome.refused n p) = outcome.refused n at

-- spaces become fillers and the text is read as TD2, a leading V being 3
unfoldable pub with_text : Header → (at : ℕ) → Answer → Stretch → Read Said
with_text h at a v = checked (placed at a.outcome) (value (record { header = h; kept = a.kept; signature = v }))

-- 27, then the text
unfoldable pub with_image : List ℕ → Header → Features → (t : List ℕ) → Read Said
with_image s h f t = and_then (signature_at s f.end) (λ v. with_text h f.text (read_text source.Seal (filled t)) v)

-- feature 02 absent, 25 at FF or the end; then 26, its C40 bad or not 72 characters, at the feature
unfoldable pub with_features : List ℕ → Header → Features → Read Said
with_features s h f =
    checked (unless (not (eqb f.text 0)) 25 f.end)
    (checked (unless (is_field (feature_octets s f) 2 72) 26 f.text) (with_image s h f (text_in s f)))

unfoldable pub with_header : List ℕ → Header → (end : ℕ) → Read Said
with_header s h end = and_then (features s end) (λ f. with_features s h f)

unfoldable pub said_in : List ℕ → Read Said
said_in s =
    checked (unless (leb (length s) 65535) 1 0) (checked (header_check s) (with_header s (header_of s) (header_end s)))

-- an answer in the paper's terms
pub record SealAnswer : Type 0 where
  pub outcome : outcome.Outcome
  pub header : Header
  pub kept : Record
  pub signature : Stretch

-- every refusal gives the blank header, the blank record and no signature
unfoldable pub answer_by : Read Said → SealAnswer
answer_by (value c) = record { outcome = outcome.passed; header = c.header; kept = c.kept; signature = c.signature }
answer_by (refusal n p) =
    record { outcome = outcome.refused n p; header = blank_header; kept = blank; signature = record { from = 0; to = 0 } }

unfoldable pub read_seal : List ℕ → SealAnswer
read_seal s = answer_by (said_in s)

-- the paper's number and values of what the code answers
unfoldable pub answer_of : Result Seal Refusal → SealAnswer
answer_of (Ok r) = record { outcome = outcome.passed; header = r.header; kept = r.kept; signature = r.signature }
answer_of (Err e) = answer_by (refusal (why_of e.cause) e.place)

-- NO SECOND ANSWER meets the promise of reading a seal (`only_seal`), its header (`only_header`) or its features
-- (`only_features`), and every refusal gives the blank header, the blank record and no signature (`seal_blank`).
use Prim.Native.Nat.{ℕ}
use mathlib.Core.Path.{◌≡◌, ap, sym, ◌∙◌}
use mathlib.Core.List.{List}
use Rattle.std.specs.Prelude.{Result, Ok, Err}
use Rattle.refusal.specs.declared.Refusal.{Refusal}
use Rattle.refusal.specs.Numbers.{Why}
use Rattle.refusal.specs.Outcome.{refused}
use Rattle.refusal.proofs.Outcomes.{refused_not_passed}
use Rattle.refusal.proofs.Numbers.{outcome_tells, refused_tells}
use Rattle.zone.specs.Record.{blank}
use Rattle.tlv.specs.Read.{Read, value, refusal, read_of}
use Rattle.tlv.proofs.Told.{read_tells}
use Rattle.seal_features.specs.declared.features.Features.{Features}
use Rattle.seal_features.specs.Features.{features}
use Rattle.seal_header.specs.declared.header.Headed.{Headed}
use Rattle.seal_header.specs.Header.{blank_header, Heads}
use Rattle.seal.specs.declared.read.Seal.{Seal}
use Rattle.seal.specs.Seal.{Said, said_in, SealAnswer, answer_by, read_seal, answer_of}

-- the paper's number and values of an answer tell the answer
seal_tells : (r q : Result Seal Refusal) → answer_of r ≡ answer_of q → r ≡ q
unfolding answer_of answer_by
seal_tells (Ok r) (Ok q) e =
    let b : r.header ≡ q.header = ap (λ (x : SealAnswer). x.header) e in
    let c : r.kept ≡ q.kept = ap (λ (x : SealAnswer). x.kept) e in
    let d : r.signature ≡ q.signature = ap (λ (x : SealAnswer). x.signature) e in
    ap Ok (λ i. record { header = b i; kept = c i; signature = d i })
seal_tells (Ok r) (Err q) e = absurd (refused_not_passed (sym (ap (λ (x : SealAnswer). x.outcome) e)))
seal_tells (Err r) (Ok q) e = absurd (refused_not_passed (ap (λ (x : SealAnswer). x.outcome) e))
seal_tells (Err r) (Err q) e = ap Err (refused_tells r q (ap (λ (x : SealAnswer). x.outcome) e))

pub only_seal : (s : List ℕ) (r q : Result Seal Refusal) → answer_of r ≡ read_seal s → answer_of q ≡ read_seal s → r ≡ q
only_seal s r q e f = seal_tells r q (e ∙ sym f)

-- nor does a second answer meet the header's
pub only_header : (s : List ℕ) (r q : Headed) → Heads s r → Heads s q → r ≡ q
only_header s r q e f =
    let a : r.verdict ≡ q.verdict = outcome_tells r.verdict q.verdict (e.decided ∙ sym f.decided) in
    let b : r.header ≡ q.header = e.said ∙ sym f.said in
    let c : r.end ≡ q.end = e.ends ∙ sym f.ends in
    λ i. record { verdict = a i; header = b i; end = c i }

-- nor the features'
pub only_features : (s : List ℕ) (at : ℕ) (r q : Result Features Refusal) → read_of r ≡ features s at
    → read_of q ≡ features s at → r ≡ q
only_features s at r q e f = read_tells r q (e ∙ sym f)

pub seal_blank : (s : List ℕ) (n : Why) (p : ℕ) → (read_seal s).outcome ≡ refused n p
    → read_seal s
    ≡ record { outcome = refused n p; header = blank_header; kept = blank; signature = record { from = 0; to = 0 } }
unfolding read_seal answer_by
seal_blank s n p e = go (said_in s) e
  where
    go : (m : Read Said) → (answer_by m).outcome ≡ refused n p
        → answer_by m
        ≡ record { outcome = refused n p; header = blank_header; kept = blank; signature = record { from = 0; to = 0 } }
    go (value c) h = absurd (refused_not_passed (sym h))
    go (refusal k q) h =
        λ i. record { outcome = h i; header = blank_header; kept = blank; signature = record { from = 0; to = 0 } }

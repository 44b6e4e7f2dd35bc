-- No second answer meets a promise: the paper's number and values of an answer tell the answer.
use Rattle.std.specs.Prelude.{Option, Some, None, Result, Ok, Err}
use Rattle.refusal.specs.declared.Refusal.{Refusal}
use Prim.Native.Nat.{ℕ}
use mathlib.Core.Path.{◌≡◌, refl, ap, sym, ◌∙◌}
use mathlib.Core.List.{List}
use native.Mathlib.Omega.{arith}
use Rattle.refusal.specs.Outcome.{Outcome, passed, refused}
use Rattle.refusal.proofs.Numbers.{refused_tells, length-tells}
use Rattle.refusal.proofs.Outcomes.{refused_not_passed}
use Rattle.digest.specs.Answer.{Digests}
use Rattle.zone.specs.declared.form.Source.TheVariants.{Alone}
use Rattle.zone.specs.declared.record.Record.{Record}
use Rattle.text.specs.Read.{Answer, answer_of, read_text}
use Rattle.chip.specs.Presentation.{read_presentation}
use Rattle.writing.specs.Answer as text
use Rattle.entry.specs.Entry.{Writes}
use Rattle.runs.specs.Run as run
use Rattle.runs.specs.declared.run.Standing.{Standing}

-- every refusal gives the blank record, so that its number and place tell it
pub answer_tells : (r s : Result Record Refusal) → answer_of r ≡ answer_of s → r ≡ s
unfolding answer_of
answer_tells (Ok a) (Ok b) e = ap Ok (ap (λ (x : Answer). x.kept) e)
answer_tells (Err e) (Err f) g = ap Err (refused_tells e f (ap (λ (x : Answer). x.outcome) g))
answer_tells (Ok a) (Err f) g = absurd (refused_not_passed (sym (ap (λ (x : Answer). x.outcome) g)))
answer_tells (Err e) (Ok b) g = absurd (refused_not_passed (ap (λ (x : Answer). x.outcome) g))

-- nor does a second answer, or a second state of the output, meet the digest's
pub only_digest : (input out a b : List ℕ) (r s : Result ℕ Refusal) → Digests input out a r → Digests input out b s
    → (r ≡ s) × (a ≡ b)
only_digest input out a b r s p q = (length-tells r s (p.answer ∙ sym q.answer), p.output ∙ sym q.output)

pub only_reading : (t : List ℕ) (r s : Result Record Refusal) → answer_of r ≡ read_text Alone t
    → answer_of s ≡ read_text Alone t → r ≡ s
only_reading t r s p q = answer_tells r s (p ∙ sym q)

pub only_presentation : (w : List ℕ) (r s : Result Record Refusal) → answer_of r ≡ read_presentation w
    → answer_of s ≡ read_presentation w → r ≡ s
only_presentation w r s p q = answer_tells r s (p ∙ sym q)

-- ---- what writes a text or an entry

pub only_text : (r : Record) (out a b : List ℕ) (v w : Result ℕ Refusal) → text.Writes r out a v → text.Writes r out b w
    → (v ≡ w) × (a ≡ b)
only_text r out a b v w p q = (length-tells v w (p.answer ∙ sym q.answer), p.output ∙ sym q.output)

pub only_entry : (house : ℕ) (r : Record) (out a b : List ℕ) (v w : Result ℕ Refusal) → Writes house r out a v
    → Writes house r out b w → (v ≡ w) × (a ≡ b)
only_entry house r out a b v w p q = (length-tells v w (p.answer ∙ sym q.answer), p.output ∙ sym q.output)

-- ---- the run reader

-- where a run goes on, told apart: at an offset, at its end, or as a refusal
offset_in : run.Onward → ℕ
offset_in (run.next n) = n
offset_in run.none = 0
offset_in (run.refused n p) = 0

refusal_in : run.Onward → Outcome
refusal_in (run.next n) = passed
refusal_in run.none = passed
refusal_in (run.refused n p) = refused n p

kind_of : run.Onward → ℕ
kind_of (run.next n) = 0
kind_of run.none = 1
kind_of (run.refused n p) = 2

told : {x y : run.Standing} → x ≡ y → kind_of x.onward ≡ kind_of y.onward
told e = ap (λ (x : run.Standing). kind_of x.onward) e

pub standing_tells : (r s : Result (Option Standing) Refusal) → run.standing_of r ≡ run.standing_of s → r ≡ s
unfolding offset_in refusal_in kind_of
standing_tells (Ok (Some a)) (Ok (Some b)) e =
    let p : a.next ≡ b.next = ap (λ (x : run.Standing). offset_in x.onward) e in
    let q : a.house ≡ b.house = ap (λ (x : run.Standing). x.house) e in
    let k : a.kept ≡ b.kept = ap (λ (x : run.Standing). x.kept) e in
    λ i. Ok (Some (record { next = p i; house = q i; kept = k i }))
standing_tells (Ok None) (Ok None) e = refl
standing_tells (Err r) (Err s) e = ap Err (refused_tells r s (ap (λ (x : run.Standing). refusal_in x.onward) e))
standing_tells (Ok (Some a)) (Ok None) e = absurd (let z : ◌≡◌ {A = ℕ} 0 1 = told e in omega arith)
standing_tells (Ok (Some a)) (Err s) e = absurd (let z : ◌≡◌ {A = ℕ} 0 2 = told e in omega arith)
standing_tells (Ok None) (Ok (Some b)) e = absurd (let z : ◌≡◌ {A = ℕ} 1 0 = told e in omega arith)
standing_tells (Ok None) (Err s) e = absurd (let z : ◌≡◌ {A = ℕ} 1 2 = told e in omega arith)
standing_tells (Err r) (Ok (Some b)) e = absurd (let z : ◌≡◌ {A = ℕ} 2 0 = told e in omega arith)
standing_tells (Err r) (Ok None) e = absurd (let z : ◌≡◌ {A = ℕ} 2 1 = told e in omega arith)

pub only_next : (w : List ℕ) (at : ℕ) (r s : Result (Option Standing) Refusal) → run.standing_of r ≡ run.read_entry w at
    → run.standing_of s ≡ run.read_entry w at → r ≡ s
only_next w at r s p q = standing_tells r s (p ∙ sym q)

-- What was judged, and what was written, are what the definition says: where a record is fit and a header carried, the parts are
-- the seal and as long as it; elsewhere its length decides nothing.
use Rattle.std.specs.Prelude.{Result}
use Rattle.refusal.specs.declared.Refusal.{Refusal}
use Prim.Native.Nat.{ℕ, ◌≤◌}
use mathlib.Core.Path.{◌≡◌, refl, ap, sym, ◌∙◌}
use mathlib.Core.Bool.{Bool, true, false, cond, ◌&&◌}
use mathlib.Core.List.{List}
use borrow.Author.Tests.{leb-true}
use lib.Dec.{leb}
use lib.ListN.{length}
use Rattle.lent.proofs.Bools.{and_both}
use Rattle.refusal.specs.Numbers.{Why}
use Rattle.refusal.specs.Outcome.{Outcome, passed, refused, or_else, unless}
use Rattle.refusal.specs.Length.{length_of}
use Rattle.refusal.specs.Length as told
use Rattle.refusal.specs.Output.{write_answer, write_out}
use Rattle.refusal.proofs.Outcomes.{both_passed, unless_kept}
use Rattle.zone.specs.declared.record.Record.{Record}
use Rattle.writing.specs.Text.{text_of}
use Rattle.seal_header.specs.declared.header.Header.{Header}
use Rattle.seal_writing.specs.Carried.{is_carried}
use Rattle.seal_writing.specs.Seal.{seal_octets, is_fit, seal_check, seal_answer, seal_out, WritesSeal}
use Rattle.seal_writing.specs.Inner.Parts.{parts_of, seal_width}
use Rattle.seal_writing.proofs.PartsJoined.{carried_apart, parts_seal, seal_length}

-- the code's check
unfoldable pub check_by : Header → Record → List ℕ → Outcome
check_by h r g =
    or_else (unless (is_fit r) 17 0) (unless (is_carried h && leb (seal_width h.reference_len g) 65535) 28 0)

module _ (h : Header) (r : Record) (g t x : List ℕ) (text : t ≡ cond (is_fit r) (text_of r) x) (wide : length t ≡ 72) where
  text-so : is_fit r ≡ true → t ≡ text_of r
  text-so fit = text ∙ rw fit

  text-wide : is_fit r ≡ true → length (text_of r) ≡ 72
  text-wide fit = ap length (sym (text-so fit)) ∙ wide

  pub check-so : check_by h r g ≡ seal_check h r g
  unfolding check_by seal_check
  check-so = go (is_fit r) refl (is_carried h) refl
    where
      go : (a : Bool) → is_fit r ≡ a → (b : Bool) → is_carried h ≡ b
          → or_else (unless a 17 0) (unless (b && leb (seal_width h.reference_len g) 65535) 28 0)
          ≡ or_else (unless a 17 0) (unless (b && leb (length (seal_octets h r g)) 65535) 28 0)
      go false p b q = refl
      go true p false q = refl
      go true p true q = rw (seal_length h (carried_apart h q) r g (text-wide p))

  -- what a check that passed says
  pub check_kept : check_by h r g ≡ passed
      → (is_fit r ≡ true) × ((is_carried h ≡ true) × (seal_width h.reference_len g ≤ 65535))
  unfolding check_by
  check_kept e =
      let size = leb (seal_width h.reference_len g) 65535 in
      let p = both_passed (unless (is_fit r) 17 0) (unless (is_carried h && size) 28 0) e in
      let q = and_both (is_carried h) size (unless_kept (is_carried h && size) 28 0 p.1) in
      (unless_kept (is_fit r) 17 0 p.0, (q.0, leb-true (seal_width h.reference_len g) 65535 q.1))

  module _ (out after : List ℕ) (w : Result ℕ Refusal) where
    pub written-so : check_by h r g ≡ passed → length_of w ≡ write_answer passed (seal_width h.reference_len g) out
        → after ≡ write_out passed (seal_width h.reference_len g) (parts_of h t g) out → WritesSeal h r g out after w
    unfolding seal_answer seal_out
    written-so e p q =
        let kept = check_kept e in
        let k = carried_apart h kept.1.0 in
        let long = seal_length h k r g (text-wide kept.0) in
        let same = parts_seal h k r g (text-wide kept.0) in
        let check = sym check-so ∙ e in
        record {
          answer = p ∙ rw (check, long);
          output = q ∙ rw (text-so kept.0, same, check, long);
        }

    pub refused-so : (why : Why) (place : ℕ) → check_by h r g ≡ refused why place → length_of w ≡ told.refused why place
        → after ≡ out → WritesSeal h r g out after w
    unfolding seal_answer seal_out
    refused-so why place e p q =
        let check = sym check-so ∙ e in
        record { answer = p ∙ rw check; output = q ∙ rw check }

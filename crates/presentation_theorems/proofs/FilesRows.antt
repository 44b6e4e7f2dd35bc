-- Stages 2 and 5 as rows: the walk over the files is the rows of each, before the files; what is asked of them is a row for each
-- reason.
use Prim.Native.Nat.{ℕ, ◌≤◌, ◌<◌}
use mathlib.Core.Path.{◌≡◌, refl, ap, sym, ◌∙◌}
use mathlib.Core.Bool.{Bool, true, false, cond, not, ◌&&◌, ◌||◌}
use mathlib.Core.List.{List, [], ◌∷◌, map}
use native.Mathlib.Omega.{arith}
use borrow.Author.Tests.{lt-ltb}
use lib.Dec.{eqb, ltb}
use lib.ListN.{length, get_or}
use Rattle.refusal.specs.Numbers.{by}
use Rattle.refusal.specs.Outcome.{Outcome, passed, or_else, unless}
use Rattle.lent.specs.Octets.{stands}
use Rattle.tlv.specs.declared.Stretch.{Stretch}
use Rattle.tlv.specs.Read.{Read, value, refusal, checked}
use Rattle.tlv.specs.Tags.{is_group, group_of}
use Rattle.object.specs.Object.{GroupHash, digest_for}
use Rattle.outer.specs.Outer.{file_at, files_from, files}
use Rattle.chip.specs.Files.{is_expected, is_digested, file_check, files_check}
use Rattle.text_theorems.proofs.FirstOf.{first_of}
use Rattle.row_theorems.specs.Standing.{each}
use Rattle.presentation_theorems.specs.PresentationChecks.{lent_file, file_places, group_checks, file_checks, files_checks}
use Rattle.presentation_theorems.specs.ObjectChecks.{group_hash}
use Rattle.presentation_theorems.proofs.Elements.{same_test}
use Rattle.row_theorems.proofs.Rows.{under, element_row, coded_within, last_of, last_passed}
use Rattle.row_theorems.proofs.Places.{places_rows}
use Rattle.presentation_theorems.proofs.ObjectRows.{some_digest}

-- ---- stage 2

file_rows : (w : List ℕ) (at : ℕ) → file_at w at ≡ under (group_checks w at) (value (lent_file w at).held)
unfolding file_at group_checks lent_file under checked
file_rows w at =
    let tag = get_or w at 0 in
    go (is_group tag) (element_row w at tag)
  where
    go : (b : Bool) {m n : Read Stretch} → m ≡ n → cond b m (refusal (by 10) at) ≡ checked (unless b 10 at) n
    go true e = e
    go false e = refl

file_ends : (w : List ℕ) (at : ℕ) → first_of (group_checks w at) ≡ passed
    → (at < (lent_file w at).held.to) × ((lent_file w at).held.to ≤ length w)
    × ((lent_file w at).held.to ≡ (lent_file w at).held.to)
unfolding group_checks lent_file last_of
file_ends w at e =
    let within = coded_within w at (get_or w at 0) (last_passed (group_checks w at) e) in
    (omega (arith, within.0, within.1), within.2, refl)

pub files_rows : (w : List ℕ) (at : ℕ)
    → files w at ≡ under (each (group_checks w) (file_places w at)) (value (map (lent_file w) (file_places w at)))
unfolding files files_from file_places lent_file
files_rows w at =
    places_rows (length w) (file_at w) (group_checks w) (λ p. (lent_file w p).held) (λ v. v.to) (λ p. (lent_file w p).held.to)
    (λ p v. record { start = p; held = v }) (λ k p. files_from k w p) (λ k p. refl) (file_rows w) (file_ends w) at

-- ---- stage 5

-- 14 has three reasons, each a row
reasons : (a b c d : Bool) (n m p : ℕ) (rest : Outcome)
    → or_else (or_else (unless (a && (b && c)) n p) (unless d m p)) rest
    ≡ or_else (unless a n p) (or_else (unless b n p) (or_else (unless c n p) (or_else (unless d m p) rest)))
reasons true true true d n m p rest = refl
reasons true true false d n m p rest = refl
reasons true false c d n m p rest = refl
reasons false b c d n m p rest = refl

-- no digest begins at 0, so that a group has a digest exactly where it has an entry
pub has_entry : (s ps : List ℕ) (g : ℕ)
    → ltb 0 (digest_for g (map (group_hash s) ps)) ≡ stands g (map (λ e. e.group) (map (group_hash s) ps))
unfolding digest_for stands
has_entry s [] g = refl
has_entry s (p ∷ ps) g = rw (same_test g x.group x.group g sym sym) (go (eqb x.group g) (has_entry s ps g))
  where
    x : GroupHash
    x = group_hash s p

    rest : List GroupHash
    rest = map (group_hash s) ps

    go : (b : Bool) → ltb 0 (digest_for g rest) ≡ stands g (map (λ e. e.group) rest)
        → ltb 0 (cond b x.digest (digest_for g rest)) ≡ b || stands g (map (λ e. e.group) rest)
    go true e = lt-ltb 0 x.digest (some_digest s p)
    go false e = e

module _ (w tags : List ℕ) (es : List GroupHash)
    (entered : (g : ℕ) → ltb 0 (digest_for g es) ≡ stands g (map (λ e. e.group) es)) where
  pub signed_rows : (before ps : List ℕ)
      → files_check w tags before es (map (lent_file w) ps) ≡ first_of (files_checks w tags before es ps)
  unfolding files_check files_checks file_checks file_check is_expected lent_file first_of
  signed_rows before [] = refl
  signed_rows before (at ∷ ps) =
      let tag = get_or w at 0 in
      ap (or_else (file_check w tags before es (lent_file w at) tag)) (signed_rows (tag ∷ before) ps)
      ∙ reasons (stands tag tags) (not (stands tag before)) (ltb 0 (digest_for (group_of tag) es))
      (is_digested w es (lent_file w at) tag) 14 15 at _
      ∙ rw (entered (group_of tag))

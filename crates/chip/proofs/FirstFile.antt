-- The first file of a group, looked for from one file to the next; and with what was found kept while the others are walked.
use Rattle.outer.specs.declared.File.{File}
use Prim.Native.Nat.{ℕ, ◌≤◌, ◌<◌}
use mathlib.Core.Path.{◌≡◌, refl, ap, sym, ◌∙◌}
use mathlib.Core.Bool.{Bool, true, false, cond, ◌&&◌, false≢true}
use native.Mathlib.Omega.{arith}
use mathlib.Core.List.{List}
use borrow.Author.Tests.{eq-eqb, ne_eqb, eqb-true}
use lib.Dec.{eqb}
use lib.ListN.{length, get_or}
use Rattle.lent.proofs.Bools.{and_both}
use Rattle.refusal.specs.Numbers.{Why, by}
use Rattle.refusal.specs.Outcome.{passed}
use Rattle.tlv.specs.declared.Stretch.{Stretch}
use Rattle.tlv.specs.Read.{Read, value, refusal, and_then, outcome_in}
use Rattle.tlv.specs.Tags.{group_of}
use Rattle.outer.specs.Outer.{file_at, files}
use Rattle.chip.specs.Inner.ByTable.{files_in}
use Rattle.chip.specs.Presentation.{first_file, file_or_none}
use Rattle.chip.specs.Inner.Found.{or_found}
use Rattle.outer.proofs.FilesWalked.{before, file_behind, files_next, files_refused, files_done}
use Rattle.refusal.proofs.Outcomes.{refused_not_passed}
use Rattle.chip.proofs.FilesByTable.{in_next_lem}

-- what goes on from files that were walked to the end
pub in_then : {B : Type 0} (m : Read (List File)) (go : List File → Read B) → outcome_in m ≡ passed
    → and_then m go ≡ go (files_in m)
unfolding outcome_in and_then files_in
in_then (value fs) go e = refl
in_then (refusal n p) go e = absurd (refused_not_passed e)

module _ (w : List ℕ) (group at : ℕ) (t : outcome_in (files w at) ≡ passed) where
  pub first_here : (v : Stretch) → at < length w → file_at w at ≡ value v → group_of (get_or w at 0) ≡ group
      → value (record { start = at; held = v }) ≡ first_file w group (files_in (files w at))
  unfolding first_file
  first_here v h e g = rw ((in_next_lem w at v h e t).0, eq-eqb (group_of (get_or w at 0)) group g)

  pub first_on : (v : Stretch) → at < length w → file_at w at ≡ value v → (group_of (get_or w at 0) ≡ group → ⊥)
      → first_file w group (files_in (files w v.to)) ≡ first_file w group (files_in (files w at))
  unfolding first_file
  first_on v h e g = rw ((in_next_lem w at v h e t).0, ne_eqb (group_of (get_or w at 0)) group g)

  pub first_missing : length w ≤ at → refusal (by 14) (length w) ≡ first_file w group (files_in (files w at))
  unfolding first_file files_in
  first_missing h = rw (files_done w at h)

-- ---- one walk that keeps what was found

module _ (w : List ℕ) (group at : ℕ) (found v : Stretch) (here : at < length w) (e : file_at w at ≡ value v) where
  -- the first of the group is found here, and kept from here on
  pub found_here : eqb found.to 0 && eqb (group_of (get_or w at 0)) group ≡ true
      → or_found w group (record { from = at; to = v.to }) (files w v.to) ≡ or_found w group found (files w at)
  unfolding or_found before and_then first_file file_or_none
  found_here k =
      let both = and_both (eqb found.to 0) (eqb (group_of (get_or w at 0)) group) k in
      let behind = (file_behind w at v e).0 in
      go (files w v.to) both.0 both.1 (ne_eqb v.to 0 (λ z. omega (arith, behind, z)))
      ∙ ap (or_found w group found) (sym (files_next w at v here e))
    where
      go : (m : Read (List File)) → eqb found.to 0 ≡ true → eqb (group_of (get_or w at 0)) group ≡ true → eqb v.to 0 ≡ false
          → or_found w group (record { from = at; to = v.to }) m ≡ or_found w group found (before at v m)
      go (value fs) a b c = rw (a, b, c)
      go (refusal n p) a b c = refl

  pub found_on : eqb found.to 0 && eqb (group_of (get_or w at 0)) group ≡ false
      → or_found w group found (files w v.to) ≡ or_found w group found (files w at)
  unfolding or_found before and_then first_file
  found_on k =
      go (files w v.to) (eqb found.to 0) refl (eqb (group_of (get_or w at 0)) group) refl k
      ∙ ap (or_found w group found) (sym (files_next w at v here e))
    where
      go : (m : Read (List File)) (a : Bool) → eqb found.to 0 ≡ a → (b : Bool) → eqb (group_of (get_or w at 0)) group ≡ b
          → a && b ≡ false → or_found w group found m ≡ or_found w group found (before at v m)
      go (refusal n p) a x b y k = refl
      go (value fs) true x true y k = absurd (false≢true (sym k))
      go (value fs) true x false y k = rw (x, y)
      go (value fs) false x b y k = rw x

module _ (w : List ℕ) (group at : ℕ) (found : Stretch) where
  pub found_done : length w ≤ at → (found.to ≡ 0 → found ≡ record { from = 0; to = 0 })
      → found ≡ or_found w group found (files w at)
  unfolding or_found first_file file_or_none
  found_done h none = rw (files_done w at h) (go (eqb found.to 0) refl)
    where
      go : (b : Bool) → eqb found.to 0 ≡ b → found ≡ cond b (record { from = 0; to = 0 }) found
      go true q = none (eqb-true found.to 0 q)
      go false q = refl

  pub found_refused : (n : Why) (p : ℕ) → at < length w → file_at w at ≡ refusal n p
      → record { from = 0; to = 0 } ≡ or_found w group found (files w at)
  unfolding or_found
  found_refused n p here e = rw (files_refused w at n p here e)

-- Stages 5 and 6 by the table of digests decide as they do by the entries.
use Rattle.outer.specs.declared.File.{File}
use Prim.Native.Nat.{ℕ, ◌≤◌}
use mathlib.Core.Path.{◌≡◌, refl, ap, sym, ◌∙◌}
use mathlib.Core.List.{List, []}
use native.Mathlib.Omega.{arith}
use lib.ListN.{length, get_or}
use Rattle.refusal.specs.Numbers.{Why}
use Rattle.refusal.specs.Outcome.{Outcome, passed, refused}
use Rattle.zone.specs.declared.record.Record.{Record}
use Rattle.tlv.specs.Read.{Read, value, refusal, and_then, checked, outcome_in}
use Rattle.outer.specs.Outer.{files}
use Rattle.object.specs.Object.{GroupHash, Said, digest_for}
use Rattle.object.specs.declared.strings.Version.{Version}
use Rattle.chip.specs.Files.{files_check}
use Rattle.object.specs.declared.Object.{Object}
use Rattle.object.specs.Inner.Seen.{table_of, kept_of, kept}
use Rattle.chip.specs.Inner.ByTable.{files_in, files_by}
use Rattle.chip.specs.Presentation.{group_one}
use Rattle.object.proofs.EntriesByTable.{table_has, table_length}
use Rattle.refusal.proofs.Outcomes.{refused_not_passed}
use Rattle.tlv.proofs.Joined.{value_checked, same_value, never_value, refusal_told}
use Rattle.chip.proofs.FilesByTable.{table_decides}
use Rattle.chip.proofs.FirstFile.{in_then}

walked_all : (m : Read (List File)) → outcome_in m ≡ passed → m ≡ value (files_in m)
unfolding outcome_in files_in
walked_all (value fs) e = refl
walked_all (refusal n p) e = absurd (refused_not_passed e)

-- what is left to do once the entries are known
unfoldable onward : List ℕ → List ℕ → ℕ → List GroupHash → Read Record
onward w tags at es = and_then (files w at) (λ fs. checked (files_check w tags [] es fs) (group_one w fs))

by_entries : (w tags : List ℕ) (at : ℕ) (x : Said) (table : List ℕ) → table ≡ table_of x
    → outcome_in (files w at) ≡ passed
    → checked (files_by w tags table (files_in (files w at))) (group_one w (files_in (files w at))) ≡ onward w tags at x.entries
unfolding onward
by_entries w tags at x table d t =
    let es = x.entries in
    let fs = files_in (files w at) in
    let all = walked_all (files w at) t in
    let has : (g : ℕ) → g ≤ 16
    → get_or table g 0 ≡ digest_for g es = λ g h. ap (λ l. get_or l g 0) d ∙ table_has x g (omega arith) in
    let same = table_decides w tags table es at fs (ap length d ∙ table_length x) all has in
    ap (λ o. checked o (group_one w fs)) same
    ∙ sym (in_then (files w at) (λ l. checked (files_check w tags [] es l) (group_one w l)) t)

-- the same behind stage 4 and a check of the version that it found
module _ (w tags : List ℕ) (at : ℕ) (check : Version → Outcome) (m : Read Said) where
  abbrev behind : Read Record
  behind = and_then m (λ x. checked (check x.version) (and_then (files w at) (λ fs.
      checked (files_check w tags [] x.entries fs) (group_one w fs))))

  pub by_object : (o : Object) → value o ≡ kept m → check o.version ≡ passed → outcome_in (files w at) ≡ passed
      → checked (files_by w tags o.digests (files_in (files w at))) (group_one w (files_in (files w at))) ≡ behind
  unfolding onward and_then kept kept_of
  by_object o e c t = go m e
    where
      go : (m : Read Said) → value o ≡ kept m
          → checked (files_by w tags o.digests (files_in (files w at))) (group_one w (files_in (files w at)))
          ≡ and_then m (λ x. checked (check x.version) (onward w tags at x.entries))
      go (refusal n p) e = absurd (never_value n p o (sym e))
      go (value x) e =
          let same = same_value e in
          let next = onward w tags at x.entries in
          by_entries w tags at x o.digests (ap (λ (y : Object). y.digests) same) t
          ∙ sym (value_checked (check x.version) next next (ap (λ (y : Object). check y.version) (sym same) ∙ c) refl)

  pub refused_object : (n : Why) (p : ℕ) → refusal n p ≡ kept m → behind ≡ refusal n p
  unfolding and_then kept outcome_in
  refused_object n p e = go m e
    where
      go : (m : Read Said) → refusal n p ≡ kept m
          → and_then m (λ x. checked (check x.version) (and_then (files w at) (λ fs.
          checked (files_check w tags [] x.entries fs) (group_one w fs)))) ≡ refusal n p
      go (refusal k q) e = refusal_told (refusal k q) n p (sym (ap outcome_in e))
      go (value x) e = absurd (never_value n p (kept_of x) e)

  pub refused_version : (o : Object) → value o ≡ kept m → (n : Why) (p : ℕ) → check o.version ≡ refused n p
      → behind ≡ refusal n p
  unfolding and_then checked kept kept_of
  refused_version o e n p c = go m e
    where
      go : (m : Read Said) → value o ≡ kept m
          → and_then m (λ x. checked (check x.version) (and_then (files w at) (λ fs.
          checked (files_check w tags [] x.entries fs) (group_one w fs)))) ≡ refusal n p
      go (refusal k q) e = absurd (never_value k q o (sym e))
      go (value x) e = rw (ap (λ (y : Object). check y.version) (sym (same_value e)) ∙ c)

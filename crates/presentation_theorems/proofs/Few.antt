-- Contents that belong together have at most fifteen tags and sixteen entries: limits of document 01 that `Presented` need not
-- say.
use Prim.Native.Nat.{ℕ, suc, ◌≤◌}
use mathlib.Core.Path.{◌≡◌, refl, ap}
use mathlib.Core.List.{List, [], ◌∷◌}
use mathlib.Core.Logic.{inl, inr}
use native.Mathlib.Omega.{arith}
use lib.ListN.{length}
use Rattle.efcom.proofs.FifteenTags.{fifteen_tags}
use Rattle.object.specs.Object.{GroupHash}
use Rattle.object.proofs.SixteenEntries.{Numbered, sixteen_entries}
use Rattle.presentation_theorems.specs.Presented.{Signed, Contents, IsIn, numbers, EntryKept, Presented}
use Rattle.presentation_theorems.proofs.NoneTwice.{none_once}
use Rattle.presentation_theorems.proofs.EfCom.{known_back, once_back}
use Rattle.presentation_theorems.proofs.ObjectEntry.{signed_at, signed_in}
use Rattle.presentation_theorems.proofs.ObjectEntries.{numbers_once_lem}

-- entries with these numbers, wherever they stand
hashes : List Signed → List GroupHash
hashes [] = []
hashes (x ∷ xs) = record { group = x.number; place = 0; digest = 0; end = 0 } ∷ hashes xs

numbered : (xs : List Signed) → ((x : Signed) → IsIn x xs → EntryKept x) → Numbered (hashes xs)
unfolding hashes IsIn Numbered
numbered [] k = tt
numbered (x ∷ xs) k =
    let here = k x (inl refl) in
    ((here.number_least, here.number_most), numbered xs (λ y m. k y (inr m)))

same_numbers : (xs : List Signed) → numbers (signed_in [] (hashes xs)) ≡ numbers xs
unfolding hashes numbers signed_in signed_at
same_numbers [] = refl
same_numbers (x ∷ xs) = ap (λ (l : List ℕ). x.number ∷ l) (same_numbers xs)

same_count : (xs : List Signed) → length (hashes xs) ≡ length xs
unfolding hashes
same_count [] = refl
same_count (x ∷ xs) = ap suc (same_count xs)

pub presented_few : (p : Contents) → Presented p → (length p.tags ≤ 15) × (length p.entries ≤ 16)
presented_few p k =
    let tags = p.tags in
    let xs = p.entries in
    let known = known_back 0 tags k.tags_known in
    let once = once_back 0 [] tags (none_once tags k.tags_once) in
    let differ = numbers_once_lem [] [] (hashes xs) (rw (same_numbers xs) (none_once (numbers xs) k.numbers_once)) in
    let few = sixteen_entries (hashes xs) (numbered xs k.entry_kept) differ in
    (fifteen_tags 0 0 tags known once, omega (arith, same_count xs, few))

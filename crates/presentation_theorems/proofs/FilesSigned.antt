-- DEMAND 2, stage 5: the lent files pass exactly when each is listed, lent once, and has an entry with the digest of that whole
-- file.
use Prim.Native.Nat.{ℕ, ◌+◌, ◌<◌}
use mathlib.Core.Path.{◌≡◌, refl, ap, sym, ◌∙◌, subst}
use mathlib.Core.Bool.{Bool, true, false, cond, not, ◌&&◌, false≢true}
use mathlib.Core.List.{List, [], ◌∷◌}
use mathlib.Core.Logic.{inl, inr}
use native.Mathlib.Omega.{arith}
use borrow.Author.Tests.{eqb-true, eq-eqb, ne_eqb, not-true, ltb-true}
use lib.Dec.{eqb, leb, ltb}
use lib.ListN.{take, drop, get_or}
use Rattle.lent.proofs.Bools.{and_both, both_and, not_so}
use Rattle.refusal.specs.Outcome.{Outcome, passed, unless}
use Rattle.sha256.specs.Hash.{sha256}
use Rattle.lent.specs.Octets.{stands}
use Rattle.tlv.specs.Tags.{group_of}
use Rattle.outer.specs.declared.File.{File}
use Rattle.object.specs.Object.{GroupHash, digest_for}
use Rattle.chip.specs.Files.{file_octets, is_expected, is_digested, file_check, files_check}
use Rattle.presentation_theorems.specs.Presented.{Signed, Lent, file_of, IsIn, is_once, numbers, tags_of}
use Rattle.refusal.proofs.Outcomes.{both_passed, unless_kept, kept_unless}
use Rattle.presentation_theorems.proofs.NoneTwice.{once_after, stands_later}
use Rattle.presentation_theorems.proofs.Elements.{alike_same, same_alike}
use Rattle.presentation_theorems.proofs.ObjectEntry.{signed_at, signed_in, held_in}
use Rattle.presentation_theorems.proofs.GroupFiles.{lent_at, lent_in, FileStands, EachStands, whole_file}

-- ---- the digest of a group

digest_in : (w : List ℕ) (g : ℕ) (es : List GroupHash) → ltb 0 (digest_for g es) ≡ true
    → IsIn (record { number = g; digest = take 32 (drop (digest_for g es) w) }) (signed_in w es)
unfolding digest_for signed_in signed_at IsIn
digest_in w g [] e = absurd (let h : 0 < 0 = ltb-true 0 0 e in omega arith)
digest_in w g (x ∷ es) e = go (eqb x.group g) refl e (digest_in w g es)
  where
    go : (b : Bool) → eqb x.group g ≡ b → ltb 0 (cond b x.digest (digest_for g es)) ≡ true
        → (ltb 0 (digest_for g es) ≡ true → IsIn (record { number = g; digest = take 32 (drop (digest_for g es) w) })
        (signed_in w es))
        → IsIn (record { number = g; digest = take 32 (drop (cond b x.digest (digest_for g es)) w) })
        (signed_at w x ∷ signed_in w es)
    go true f h rest = let same : g
        ≡ x.group = sym (eqb-true x.group g f) in inl (λ i. record { number = same i; digest = take 32 (drop x.digest w) })
    go false f h rest = inr (rest h)

in_numbers : (x : Signed) (xs : List Signed) → IsIn x xs → stands x.number (numbers xs) ≡ true
unfolding IsIn numbers stands
in_numbers x [] k = absurd k
in_numbers x (y ∷ ys) (inl e) = rw (eq-eqb x.number y.number (ap (λ (z : Signed). z.number) e))
in_numbers x (y ∷ ys) (inr m) = stands_later x.number y.number (numbers ys) (in_numbers x ys m)

-- where no number stands twice, the entry of a group is the one that is found
in_digest : (w : List ℕ) (g : ℕ) (d : List ℕ) (n : ℕ) (es : List GroupHash) → is_once (numbers (signed_in w es)) ≡ true
    → held_in n es ≡ true
    → IsIn (record { number = g; digest = d }) (signed_in w es)
    → (ltb 0 (digest_for g es) ≡ true) × (take 32 (drop (digest_for g es) w) ≡ d)
unfolding digest_for signed_in signed_at IsIn is_once numbers held_in
in_digest w g d n [] once held k = absurd k
in_digest w g d n (x ∷ es) once held (inl e) =
    let same : x.group ≡ g = sym (ap (λ (z : Signed). z.number) e) in
    let a = and_both (ltb 0 x.digest && leb (x.digest + 32) n) (held_in n es) held in
    let b = and_both (ltb 0 x.digest) (leb (x.digest + 32) n) a.0 in
    (rw (eq-eqb x.group g same) b.0, rw (eq-eqb x.group g same) (sym (ap (λ (z : Signed). z.digest) e)))
in_digest w g d n (x ∷ es) once held (inr m) =
    let a = and_both (ltb 0 x.digest && leb (x.digest + 32) n) (held_in n es) held in
    let c = and_both (not (stands x.group (numbers (signed_in w es)))) (is_once (numbers (signed_in w es))) once in
    let later : stands g (numbers (signed_in w es)) ≡ true = in_numbers (record { number = g; digest = d }) (signed_in w es) m in
    let none : stands x.group (numbers (signed_in w es))
    ≡ false = not-true (stands x.group (numbers (signed_in w es))) c.0 in
    let other : eqb x.group g ≡ false = ne_eqb x.group g
    (λ f. false≢true (sym none ∙ ap (λ (z : ℕ). stands z (numbers (signed_in w es))) f ∙ later)) in
    rw other (in_digest w g d n es c.1 a.1 m)

-- ---- files

-- listed, and signed
pub record Backed (tags : List ℕ) (xs : List Signed) (l : Lent) : Type 0 where
  pub is_listed : stands l.tag tags ≡ true
  pub is_signed : IsIn (record { number = group_of l.tag; digest = sha256 (file_of l) }) xs

unfoldable pub EachBacked : List ℕ → List Signed → List Lent → Type 0
EachBacked tags xs ls = (l : Lent) → IsIn l ls → Backed tags xs l

one_backed : (tags : List ℕ) (xs : List Signed) (l : Lent) (ls : List Lent) → Backed tags xs l → EachBacked tags xs ls
    → EachBacked tags xs (l ∷ ls)
unfolding EachBacked IsIn
one_backed tags xs l ls h rest k (inl e) = subst (Backed tags xs) (sym e) h
one_backed tags xs l ls h rest k (inr m) = rest k m

module _ (w tags : List ℕ) (es : List GroupHash) where
  abbrev check : List ℕ → File → Outcome
  check before f = file_check w tags before es f (get_or w f.start 0)

  file_backed : (before : List ℕ) (f : File) → FileStands w f → check before f ≡ passed
      → Backed tags (signed_in w es) (lent_at w f) × (stands (get_or w f.start 0) before ≡ false)
  unfolding file_check is_expected is_digested lent_at
  file_backed before f h e =
      let t = get_or w f.start 0 in
      let g = group_of t in
      let one = is_expected tags before es t in
      let two = is_digested w es f t in
      let a = both_passed (unless one 14 f.start) (unless two 15 f.start) e in
      let b = and_both (stands t tags) (not (stands t before) && ltb 0 (digest_for g es)) (unless_kept one 14 f.start a.0) in
      let c = and_both (not (stands t before)) (ltb 0 (digest_for g es)) b.1 in
      let same : sha256 (file_octets w f)
      ≡ take 32 (drop (digest_for g es) w) = alike_same (sha256 (file_octets w f)) (take 32 (drop (digest_for g es) w))
      (unless_kept two 15 f.start a.1) in
      let digest : take 32 (drop (digest_for g es) w) ≡ sha256 (file_of (lent_at w f)) = sym same
      ∙ ap sha256 (whole_file w f h) in
      let signed = subst (λ (d : List ℕ). IsIn (record { number = g; digest = d }) (signed_in w es)) digest
      (digest_in w g es c.1) in
      (record { is_listed = b.0; is_signed = signed }, not-true (stands t before) c.0)

  backed_file : (n : ℕ) → held_in n es ≡ true → is_once (numbers (signed_in w es)) ≡ true → (before : List ℕ) (f : File)
      → FileStands w f
      → Backed tags (signed_in w es) (lent_at w f) → stands (get_or w f.start 0) before ≡ false → check before f ≡ passed
  unfolding file_check is_expected is_digested lent_at
  backed_file n held once before f h b new =
      let t = get_or w f.start 0 in
      let g = group_of t in
      let d = in_digest w g (sha256 (file_of (lent_at w f))) n es once held b.is_signed in
      let same : sha256 (file_octets w f) ≡ take 32 (drop (digest_for g es) w) = ap sha256 (whole_file w f h) ∙ sym d.1 in
      let expected : is_expected tags before es t
      ≡ true = both_and b.is_listed (both_and (not_so (stands t before) new) d.0) in
      let digested : is_digested w es f t ≡ true =
      same_alike (sha256 (file_octets w f)) (take 32 (drop (digest_for g es) w)) same in
      rw (kept_unless (is_expected tags before es t) 14 f.start expected)
      (kept_unless (is_digested w es f t) 15 f.start digested)

  pub files_backed : (before : List ℕ) (fs : List File) → EachStands w fs → files_check w tags before es fs ≡ passed
      → (once_after before (tags_of (lent_in w fs)) ≡ true) × EachBacked tags (signed_in w es) (lent_in w fs)
  unfolding files_check once_after tags_of lent_in lent_at EachStands EachBacked IsIn
  files_backed before [] h e = (refl, λ l k. absurd k)
  files_backed before (f ∷ fs) h e =
      let t = get_or w f.start 0 in
      let a = both_passed (check before f) (files_check w tags (t ∷ before) es fs) e in
      let b = file_backed before f (h f (inl refl)) a.0 in
      let rest = files_backed (t ∷ before) fs (λ g m. h g (inr m)) a.1 in (
        both_and (not_so (stands t before) b.1) rest.0,
        one_backed tags (signed_in w es) (lent_at w f) (lent_in w fs) b.0
            rest.1,
      )

  pub backed_files : (n : ℕ) → held_in n es ≡ true → is_once (numbers (signed_in w es)) ≡ true
      → (before : List ℕ) (fs : List File)
      → EachStands w fs
      → once_after before (tags_of (lent_in w fs)) ≡ true → EachBacked tags (signed_in w es) (lent_in w fs)
      → files_check w tags before es fs ≡ passed
  unfolding files_check once_after tags_of lent_in lent_at EachStands EachBacked IsIn
  backed_files n held once before [] h new b = refl
  backed_files n held once before (f ∷ fs) h new b =
      let t = get_or w f.start 0 in
      let a = and_both (not (stands t before)) (once_after (t ∷ before) (tags_of (lent_in w fs))) new in
      let first : check before f ≡ passed = backed_file n held once before f (h f (inl refl)) (b (lent_at w f) (inl refl))
      (not-true (stands t before) a.0) in
      rw first (backed_files n held once (t ∷ before) fs (λ g m. h g (inr m)) a.1 (λ l m. b l (inr m)))

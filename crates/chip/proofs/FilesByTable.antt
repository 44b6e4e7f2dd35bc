-- Files that were walked to the end: each in turn, and what a table of digests says of them.
use Rattle.outer.specs.declared.File.{File}
use Prim.Native.Nat.{ℕ, zero, suc, ◌+◌, ◌-◌, ◌≤◌, ◌<◌}
use mathlib.Core.Path.{◌≡◌, refl, ap, sym, ◌∙◌}
use mathlib.Core.Bool.{Bool, true, false, cond, not, ◌&&◌, ◌||◌}
use mathlib.Core.List.{List, [], ◌∷◌}
use native.Mathlib.Omega.{arith}
use borrow.Author.Tests.{eq-eqb, ne_eqb, eqb-true, eqb-false, leb-true}
use lib.Dec.{eqb, leb, ltb}
use lib.ListN.{length, take, drop, get_or, set, length-set}
use lib.Seq.{get_or-set_same, get_or-set_other}
use Rattle.lent.proofs.Bools.{and_both}
use Rattle.refusal.specs.Numbers.{Why}
use Rattle.refusal.specs.Outcome.{Outcome, passed, refused, unless, or_else}
use Rattle.tlv.specs.declared.Stretch.{Stretch}
use Rattle.tlv.specs.Read.{Read, value, refusal, and_then, outcome_in}
use Rattle.tlv.specs.Element.{element}
use Rattle.lent.specs.Octets.{alike, stands}
use Rattle.tlv.specs.Tags.{group_of, is_group}
use Rattle.outer.specs.Outer.{file_at, files_from, files, size_check, outer, walked}
use Rattle.outer.specs.declared.Outer.{Outer}
use Rattle.object.specs.Object.{GroupHash}
use Rattle.sha256.specs.Hash.{sha256}
use Rattle.chip.specs.Files.{file_octets, is_expected, is_digested, file_check, files_check}
use Rattle.object.specs.Object.{digest_for}
use Rattle.chip.specs.Inner.ByTable.{files_in, file_by, files_by}
use Rattle.refusal.proofs.Outcomes.{refused_not_passed}
use Rattle.tlv.proofs.Joined.{never_value, same_value, first_value, checked_value}
use Rattle.outer.proofs.FilesWalked.{before, group_there, files_next, files_refused, files_done}

-- ---- one file after the other

in_before : (at : ℕ) (v : Stretch) (rest : Read (List File)) → outcome_in (before at v rest) ≡ passed
    → (files_in (before at v rest) ≡ record { start = at; held = v } ∷ files_in rest) × (outcome_in rest ≡ passed)
unfolding before files_in outcome_in and_then
in_before at v (value fs) e = (refl, refl)
in_before at v (refusal n p) e = absurd (refused_not_passed e)

pub in_next_lem : (w : List ℕ) (at : ℕ) (v : Stretch) → at < length w → file_at w at ≡ value v → outcome_in (files w at) ≡ passed
    → (files_in (files w at) ≡ record { start = at; held = v } ∷ files_in (files w v.to))
    × (outcome_in (files w v.to) ≡ passed)
in_next_lem w at v h e t =
    let n = files_next w at v h e in
    let b = in_before at v (files w v.to) (sym (ap outcome_in n) ∙ t) in
    (ap files_in n ∙ b.0, b.1)

-- what was walked has its files walked to the end
pub walked_files : (w : List ℕ) (o : Outer) → walked w ≡ value o → outcome_in (files w o.object.to) ≡ passed
unfolding walked outer outcome_in
walked_files w o e =
    let one = first_value (element w 0 0x60) _ o (checked_value (size_check w) (outer w) o e).1 in
    let two = first_value (element w one.0.to 0x30) _ o one.2 in
    let three = first_value (files w two.0.to) _ o two.2 in
    let q : two.0 ≡ o.object = ap (λ (x : Outer). x.object) (same_value three.2) in
    rw (← q, three.1)

-- ---- every file walked has a group's tag

all_groups : List ℕ → List File → Bool
all_groups w [] = true
all_groups w (f ∷ fs) = is_group (get_or w f.start 0) && all_groups w fs

all_groups_lem : (k : ℕ) (w : List ℕ) (at : ℕ) (fs : List File) → files_from k w at ≡ value fs → all_groups w fs ≡ true
unfolding files_from all_groups
all_groups_lem zero w at fs e = absurd (never_value _ at fs e)
all_groups_lem (suc k) w at fs e = go (leb (length w) at) e (λ v more h. all_groups_lem k w v.to more h)
  where
    rest : Read (List File)
    rest = and_then (file_at w at) (λ held. and_then (files_from k w held.to)
        (λ more. value (record { start = at; held = held } ∷ more)))

    go : (b : Bool) → cond b (value []) rest ≡ value fs
        → ((v : Stretch) (more : List File) → files_from k w v.to ≡ value more → all_groups w more ≡ true)
        → all_groups w fs ≡ true
    go true h ih = rw (← same_value h)
    go false h ih =
        let one = first_value (file_at w at) _ fs h in
        let two = first_value (files_from k w one.0.to) _ fs one.2 in
        let q = same_value two.2 in
        rw (← q, group_there w at one.0 one.1) (ih one.0 two.0 two.1)

-- ---- a group's tag is told by its number

tag_for : ℕ → ℕ
tag_for n = cond (eqb n 1) 0x61 (cond (eqb n 2) 0x75 (cond (eqb n 3) 0x63 (cond (eqb n 4) 0x76 (cond (eqb n 5) 0x65 (n + 0x60)))))

tag_told : (tag : ℕ) → is_group tag ≡ true → tag_for (group_of tag) ≡ tag
unfolding is_group group_of tag_for
tag_told tag e = go (eqb tag 0x61) (eqb tag 0x75) (eqb tag 0x63) (eqb tag 0x76) (eqb tag 0x65)
    (leb 0x67 tag && leb tag 0x70) refl refl refl refl refl refl e
  where
    group : (a b c d f g : Bool) → ℕ
    group a b c d f g = cond a 1 (cond b 2 (cond c 3 (cond d 4 (cond f 5 (cond g (tag - 0x60) 0)))))

    go : (a b c d f g : Bool) → eqb tag 0x61 ≡ a → eqb tag 0x75 ≡ b → eqb tag 0x63 ≡ c → eqb tag 0x76 ≡ d → eqb tag 0x65 ≡ f
        → leb 0x67 tag && leb tag 0x70 ≡ g
        → not (eqb (group a b c d f g) 0) ≡ true → tag_for (group a b c d f g) ≡ tag
    go true b c d f g p1 p2 p3 p4 p5 p6 h = sym (eqb-true tag 0x61 p1)
    go false true c d f g p1 p2 p3 p4 p5 p6 h = sym (eqb-true tag 0x75 p2)
    go false false true d f g p1 p2 p3 p4 p5 p6 h = sym (eqb-true tag 0x63 p3)
    go false false false true f g p1 p2 p3 p4 p5 p6 h = sym (eqb-true tag 0x76 p4)
    go false false false false true g p1 p2 p3 p4 p5 p6 h = sym (eqb-true tag 0x65 p5)
    go false false false false false true p1 p2 p3 p4 p5 p6 h =
        let k = and_both (leb 0x67 tag) (leb tag 0x70) p6 in
        let lo = leb-true 0x67 tag k.0 in
        rw (
          ne_eqb (tag - 0x60) 1 (λ e. omega (arith, lo, e)),
          ne_eqb (tag - 0x60) 2 (λ e. omega (arith, lo, e)),
          ne_eqb (tag - 0x60) 3 (λ e. omega (arith, lo, e)),
          ne_eqb (tag - 0x60) 4 (λ e. omega (arith, lo, e)),
          ne_eqb (tag - 0x60) 5 (λ e. omega (arith, lo, e)),
        )
        (omega (arith, lo))
    go false false false false false false p1 p2 p3 p4 p5 p6 h = absurd (let z : ◌≡◌ {A = ℕ} 0 1 = cc in omega arith)

same_tag : (t u : ℕ) → is_group t ≡ true → is_group u ≡ true → group_of t ≡ group_of u → t ≡ u
same_tag t u p q e = sym (tag_told t p) ∙ (ap tag_for e ∙ tag_told u q)

-- ---- what a table says: a group's digest, or 0 from its first file on

Says : List ℕ → List ℕ → List GroupHash → Type 0
Says table lent es = (tag : ℕ) → is_group tag ≡ true
    → get_or table (group_of tag) 0 ≡ cond (stands tag lent) 0 (digest_for (group_of tag) es)

said_on : (table lent : List ℕ) (es : List GroupHash) (t : ℕ) → length table ≡ 17 → group_of t ≤ 16 → is_group t ≡ true
    → Says table lent es
    → Says (set table (group_of t) 0) (t ∷ lent) es
unfolding Says stands
said_on table lent es t n k p says u q = go (eqb (group_of u) (group_of t)) refl
  where
    go : (b : Bool) → eqb (group_of u) (group_of t) ≡ b
        → get_or (set table (group_of t) 0) (group_of u) 0 ≡ cond (eqb u t || stands u lent) 0 (digest_for (group_of u) es)
    go true h =
        let e = eqb-true (group_of u) (group_of t) h in
        rw (eq-eqb u t (same_tag u t q p e), e) (get_or-set_same table (group_of t) 0 0 (omega (arith, n, k)))
    go false h =
        let e = eqb-false (group_of u) (group_of t) h in
        rw (ne_eqb u t (λ s. e (ap group_of s))) (get_or-set_other table (group_of t) (group_of u) 0 0 e ∙ says u q)

-- refused either way, whatever would come next
neither : (x : Bool) (at : ℕ) (a b : Outcome) → or_else (unless (x && false) 14 at) a ≡ or_else (unless (x && false) 14 at) b
neither true at a b = refl
neither false at a b = refl

one_file : (w tags lent : List ℕ) (es : List GroupHash) (f : File) (tag place : ℕ)
    → place ≡ cond (stands tag lent) 0 (digest_for (group_of tag) es)
    → file_by w tags f tag place ≡ file_check w tags lent es f tag
unfolding file_by file_check is_expected is_digested
one_file w tags lent es f tag place e = go (stands tag lent) refl
  where
    go : (b : Bool) → stands tag lent ≡ b
        → or_else (unless (stands tag tags && ltb 0 place) 14 f.start)
        (unless (alike (sha256 (file_octets w f)) (take 32 (drop place w))) 15 f.start)
        ≡ or_else (unless (stands tag tags && (not (stands tag lent) && ltb 0 (digest_for (group_of tag) es))) 14 f.start)
        (unless (alike (sha256 (file_octets w f)) (take 32 (drop (digest_for (group_of tag) es) w))) 15 f.start)
    go true h = let z : place ≡ 0 = e ∙ rw h in rw (z, h) (neither (stands tag tags) f.start _ _)
    go false h = let z : place ≡ digest_for (group_of tag) es = e ∙ rw h in rw (z, h)

groups_few : (tag : ℕ) → group_of tag ≤ 16
unfolding group_of
groups_few tag = go (eqb tag 0x61) (eqb tag 0x75) (eqb tag 0x63) (eqb tag 0x76) (eqb tag 0x65) (leb 0x67 tag && leb tag 0x70) refl
  where
    go : (a b c d f g : Bool) → leb 0x67 tag && leb tag 0x70 ≡ g
        → cond a 1 (cond b 2 (cond c 3 (cond d 4 (cond f 5 (cond g (tag - 0x60) 0))))) ≤ 16
    go true b c d f g p = omega arith
    go false true c d f g p = omega arith
    go false false true d f g p = omega arith
    go false false false true f g p = omega arith
    go false false false false true g p = omega arith
    go false false false false false true p = omega (arith, leb-true tag 0x70 (and_both (leb 0x67 tag) (leb tag 0x70) p).1)
    go false false false false false false p = omega arith

said : (table lent : List ℕ) (es : List GroupHash) → Says table lent es → (tag : ℕ) → is_group tag ≡ true
    → get_or table (group_of tag) 0 ≡ cond (stands tag lent) 0 (digest_for (group_of tag) es)
unfolding Says
said table lent es says tag p = says tag p

-- the table decides as the entries and the files before do
by_table : (w tags lent table : List ℕ) (es : List GroupHash) (fs : List File) → length table ≡ 17 → all_groups w fs ≡ true
    → Says table lent es
    → files_by w tags table fs ≡ files_check w tags lent es fs
unfolding files_by files_check all_groups
by_table w tags lent table es [] n g says = refl
by_table w tags lent table es (f ∷ fs) n g says =
    let tag = get_or w f.start 0 in
    let both = and_both (is_group tag) (all_groups w fs) g in
    let next = set table (group_of tag) 0 in
    let on = said_on table lent es tag n (groups_few tag) both.0 says in
    let rest = by_table w tags (tag ∷ lent) next es fs (length-set table (group_of tag) 0 ∙ n) both.1 on in
    let here = one_file w tags lent es f tag (get_or table (group_of tag) 0) (said table lent es says tag both.0) in
    ap (λ o. or_else o (files_by w tags next fs)) here ∙ ap (or_else (file_check w tags lent es f tag)) rest

-- at the start no file was lent before
pub table_decides : (w tags table : List ℕ) (es : List GroupHash) (at : ℕ) (fs : List File) → length table ≡ 17
    → files w at ≡ value fs
    → ((g : ℕ) → g ≤ 16 → get_or table g 0 ≡ digest_for g es)
    → files_by w tags table fs ≡ files_check w tags [] es fs
unfolding files Says stands
table_decides w tags table es at fs n e has = by_table w tags [] table es fs n (all_groups_lem (suc (length w)) w at fs e)
    (λ tag p. has (group_of tag) (groups_few tag))

-- ---- what the loop over files goes by

module _ (w tags table : List ℕ) (at : ℕ) (t : outcome_in (files w at) ≡ passed) where
  -- a file that passes: the rest decides, with the group's place taken
  pub lent_on : (v : Stretch) → at < length w → file_at w at ≡ value v
      → file_by w tags (record { start = at; held = v }) (get_or w at 0) (get_or table (group_of (get_or w at 0)) 0) ≡ passed
      → files_by w tags (set table (group_of (get_or w at 0)) 0) (files_in (files w v.to))
      ≡ files_by w tags table (files_in (files w at))
  unfolding files_by
  lent_on v h e p = rw ((in_next_lem w at v h e t).0, p)

  pub lent_refused : (v : Stretch) (n : Why) (p : ℕ) → at < length w → file_at w at ≡ value v
      → file_by w tags (record { start = at; held = v }) (get_or w at 0) (get_or table (group_of (get_or w at 0)) 0) ≡ refused n p
      → refused n p ≡ files_by w tags table (files_in (files w at))
  unfolding files_by
  lent_refused v n p h e q = rw ((in_next_lem w at v h e t).0, q)

  -- no file fails to be one
  pub lent_never : (n : Why) (p : ℕ) → at < length w → file_at w at ≡ refusal n p → ⊥
  unfolding outcome_in
  lent_never n p h e = refused_not_passed (sym (ap outcome_in (files_refused w at n p h e)) ∙ t)

  -- none is left
  pub lent_done : length w ≤ at → passed ≡ files_by w tags table (files_in (files w at))
  unfolding files_by files_in
  lent_done h = rw (files_done w at h)

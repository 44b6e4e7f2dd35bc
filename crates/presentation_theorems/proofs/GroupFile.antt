-- DEMAND 2, the file of a group: the stretch that is handed back is the first file of that group, where it stands among the lent
-- bytes, whole; and it is empty where stage 1 or 2 fails or no such file is lent.
use Prim.Native.Nat.{ℕ, zero, suc, ◌+◌, ◌-◌, ◌≤◌}
use mathlib.Core.Path.{◌≡◌, refl, ap, sym, ◌∙◌, subst}
use mathlib.Core.Logic.{◌↔◌, inl, inr}
use mathlib.Core.Bool.{Bool, true, false, cond, not, ◌&&◌, false≢true}
use mathlib.Core.List.{List, [], ◌∷◌, ◌++◌, append_assoc}
use native.Mathlib.Nat.{add-zero, le_refl}
use native.Mathlib.Omega.{arith}
use borrow.Author.Tests.{leb-true, lt-leb, eq-eqb, ne_eqb}
use lib.Dec.{eqb, leb}
use lib.ListN.{length, take, drop, get_or, length-append, length-drop}
use lib.Seq.{drop_at, take_at}
use Rattle.refusal.specs.Numbers.{by}
use Rattle.lent.proofs.Bools.{and_both}
use Rattle.tlv.specs.declared.Stretch.{Stretch}
use Rattle.tlv.specs.Read.{Read, value, refusal, and_then}
use Rattle.tlv.specs.Element.{tlv}
use Rattle.tlv.proofs.Joined.{never_value, same_value, first_value, then_known, value_then}
use Rattle.outer.specs.declared.File.{File}
use Rattle.outer.specs.declared.Outer.{Outer}
use Rattle.tlv.specs.Cut.{cut}
use Rattle.tlv.specs.Tags.{group_of, is_group}
use Rattle.outer.specs.Outer.{file_at, files_from, files, walked}
use Rattle.chip.specs.Presentation.{first_file, file_or_none, group_stretch}
use Rattle.zone.specs.Octets.{AreOctets}
use Rattle.presentation_theorems.specs.Presented.{Lent, file_of, all_lent, IsIn, Outside, NoFile, FirstFile, place_of}
use Rattle.tlv.proofs.Standing.{to_behind}
use Rattle.presentation_theorems.proofs.GroupFiles.{lent_at, lent_in, FileStands, EachGroup, some_file, read_file}
use Rattle.presentation_theorems.proofs.GroupFiles.{behind_file_lem}
use Rattle.presentation_theorems.proofs.OuterWalk.{Walked, walked_parts, parts_walked}
use Rattle.presentation_theorems.proofs.Refusals.{files_in_lem, first_in}

-- ---- one file of a walk

record Step (w : List ℕ) (at more : ℕ) (l : Lent) (rest : List ℕ) (fs : List File) : Type 0 where
  held : Stretch
  others : List File
  fs_so : record { start = at; held = held } ∷ others ≡ fs
  others_walked : files_from more w held.to ≡ value others
  tag_so : get_or w at 0 ≡ l.tag
  to_so : held.to ≡ at + length (file_of l)
  to_within : held.to ≤ length w
  rest_so : drop held.to w ≡ rest

step_so : (more : ℕ) (w : List ℕ) (at : ℕ) (l : Lent) (rest : List ℕ) (fs : List File) (held : Stretch) (others : List File)
    → lent_at w (record { start = at; held = held }) ≡ l → FileStands w (record { start = at; held = held })
    → drop held.to w ≡ rest
    → files_from more w held.to ≡ value others → value (record { start = at; held = held } ∷ others) ≡ value fs
    → Step w at more l rest fs
unfolding lent_at FileStands file_of
step_so more w at l rest fs held others a h b d e = record {
  held = held;
  others = others;
  fs_so = same_value e;
  others_walked = d;
  tag_so = ap (λ (x : Lent). x.tag) a;
  to_so =
      to_behind w at (get_or w at 0) (cut w held) (drop held.to w) held h
      ∙ ap (λ (x : Lent). at + length (tlv x.tag x.content)) a;
  to_within = (behind_file_lem w at held h).1;
  rest_so = b;
}

step : (more : ℕ) (w : List ℕ) (at : ℕ) (l : Lent) (rest : List ℕ) (fs : List File) → length w ≤ 65535 → is_group l.tag ≡ true
    → drop at w ≡ file_of l ++ rest
    → files_from (suc more) w at ≡ value fs → Step w at more l rest fs
unfolding files_from
step more w at l rest fs most g e f =
    let some : length w - at ≡ length (file_of l) + length rest = sym (length-drop at w) ∙ ap length e
    ∙ length-append (file_of l) rest in
    let over : leb (length w) at ≡ false = lt-leb (length w) at (omega (arith, some_file l)) in
    let a = read_file w at l rest most g e in
    go a.0 a.1 a.2 a.3 a.4 (rw over at f)
  where
    onwards : Stretch → Read (List File)
    onwards u = and_then (files_from more w u.to) (λ (q : List File). value (record { start = at; held = u } ∷ q))

    go : (held : Stretch) → file_at w at ≡ value held → lent_at w (record { start = at; held = held }) ≡ l
        → FileStands w (record { start = at; held = held })
        → drop held.to w ≡ rest → and_then (file_at w at) onwards ≡ value fs → Step w at more l rest fs
    go held a b c d h =
        let k = then_known (file_at w at) onwards held (value fs) a h in
        let m = first_value (files_from more w held.to)
        (λ (q : List File). value (record { start = at; held = held } ∷ q)) fs k in
        step_so more w at l rest fs held m.0 b c d m.1 m.2

-- ---- the first file of a group

first_there : (before : List Lent) (l : Lent) (after : List Lent) (g more : ℕ) (w : List ℕ) (at : ℕ) (fs : List File)
    → length w ≤ 65535
    → EachGroup (before ++ (l ∷ after)) → drop at w ≡ all_lent (before ++ (l ∷ after)) → NoFile g before → group_of l.tag ≡ g
    → files_from more w at ≡ value fs
    → (f : File) × (first_file w g fs ≡ value f) × (f.start ≡ at + length (all_lent before))
    × (f.held.to ≡ at + length (all_lent before) + length (file_of l))
unfolding first_file EachGroup NoFile all_lent IsIn files_from
first_there before l after g zero w at fs most groups e none its walk = absurd (never_value _ at fs walk)
first_there [] l after g (suc more) w at fs most groups e none its walk =
    let s = step more w at l (all_lent after) fs most (groups l (inl refl)) e walk in
    let f : File = record { start = at; held = s.held } in
    let group : group_of (get_or w at 0) ≡ g = ap group_of s.tag_so ∙ its in
    let found : first_file w g (f ∷ s.others) ≡ value f = rw (eq-eqb (group_of (get_or w at 0)) g group) in (
      f,
      subst (λ (q : List File). first_file w g q ≡ value f) s.fs_so found,
      sym (add-zero at),
      s.to_so ∙ ap
          (λ (n : ℕ). n + length (file_of l)) (sym (add-zero at)),
    )
first_there (b ∷ before) l after g (suc more) w at fs most groups e none its walk =
    let s = step more w at b (all_lent (before ++ (l ∷ after))) fs most (groups b (inl refl)) e walk in
    let to = s.to_so in
    let rest = first_there before l after g more w s.held.to s.others most (λ x m. groups x (inr m)) s.rest_so
    (λ x m. none x (inr m)) its s.others_walked in
    let f = rest.0 in
    let other : eqb (group_of (get_or w at 0)) g
    ≡ false = ne_eqb (group_of (get_or w at 0)) g (λ h. none b (inl refl) (ap group_of (sym s.tag_so) ∙ h)) in
    let found : first_file w g (record { start = at; held = s.held } ∷ s.others) ≡ value f = rw other rest.1 in
    let long = length-append (file_of b) (all_lent before) in
    (f, subst (λ (q : List File). first_file w g q ≡ value f) s.fs_so found, omega (arith, rest.2), omega (arith, rest.3))

no_file : (w : List ℕ) (g : ℕ) (fs : List File) → NoFile g (lent_in w fs) → first_file w g fs ≡ refusal (by 14) (length w)
unfolding first_file lent_in lent_at NoFile IsIn
no_file w g [] h = refl
no_file w g (f ∷ fs) h = rw (ne_eqb (group_of (get_or w f.start 0)) g (λ e. h (lent_at w f) (inl refl) e))
    (no_file w g fs (λ l m e. h l (inr m) e))

-- ---- the stretch

file_stretch : (w : List ℕ) (g : ℕ) (fs : List File) (f : File) (a b : ℕ) → first_file w g fs ≡ value f → f.start ≡ a
    → f.held.to ≡ b
    → file_or_none (first_file w g fs) ≡ record { from = a; to = b }
unfolding file_or_none
file_stretch w g fs f a b e p q = ap file_or_none e ∙ (λ i. record { from = p i; to = q i })

module _ (w : List ℕ) where
  -- bytes pass stages 1 and 2 exactly when they are walked
  pub walked_exactly : AreOctets w
      → ((o : Outer) × (walked w ≡ value o)) ↔ ((c : List ℕ) × (d : List ℕ) × (ls : List Lent) × Outside w c d ls)
  unfolding EachGroup
  walked_exactly small = (
    λ h. let a = walked_parts w small h.0 h.1 in (
      cut w h.0.efcom,
      cut w h.0.object,
      lent_in w a.0,
      record { outside_size = a.1; outside_octets = a.3; outside_groups = a.2.files_group },
    ),
    λ h. let x = h.3 in
        let a = parts_walked w x.outside_size h.0 h.1 h.2 x.outside_groups x.outside_octets in
        (a.0, a.2),
  )

  -- where the bytes are walked, the stretch is that of the first file
  stretch_so : (g : ℕ) (c d : List ℕ) (o : Outer) (fs : List File) → walked w ≡ value o → Walked w c d o fs
      → group_stretch w g ≡ file_or_none (first_file w g fs)
  unfolding group_stretch
  stretch_so g c d o fs e v =
      ap file_or_none
      (value_then (walked w) (λ (q : Outer). and_then (files w q.object.to) (λ (all : List File). first_file w g all)) o
      (first_file w g fs) e
      (value_then (files w o.object.to) (λ (all : List File). first_file w g all) fs (first_file w g fs)
      v.files_walked refl))

  -- where the files begin
  files_place : (c d : List ℕ) (ls : List Lent) (o : Outer) (fs : List File) → Walked w c d o fs
      → w ≡ tlv 0x60 c ++ (tlv 0x30 d ++ all_lent ls)
      → (o.object.to ≡ length (tlv 0x60 c) + length (tlv 0x30 d)) × (drop o.object.to w ≡ all_lent ls)
  files_place c d ls o fs v e =
      let a = to_behind w 0 0x60 c (drop o.efcom.to w) o.efcom v.common_stands in
      let b = to_behind w o.efcom.to 0x30 d (drop o.object.to w) o.object v.object_stands in
      let place : o.object.to ≡ length (tlv 0x60 c) + length (tlv 0x30 d) = omega arith in (
        place,
        ap (drop o.object.to) (e ∙ sym (append_assoc (tlv 0x60 c) (tlv 0x30 d) (all_lent ls)))
            ∙ drop_at (tlv 0x60 c ++ tlv 0x30 d) (all_lent ls) o.object.to
            (length-append (tlv 0x60 c) (tlv 0x30 d) ∙ sym place),
      )

place_sum : (c d : List ℕ) (before : List Lent)
    → place_of c d before ≡ length (tlv 0x60 c) + length (tlv 0x30 d) + length (all_lent before)
unfolding place_of
place_sum c d before =
    let one = length-append (tlv 0x60 c) (tlv 0x30 d ++ all_lent before) in
    let two = length-append (tlv 0x30 d) (all_lent before) in
    omega arith

all_append : (a b : List Lent) → all_lent (a ++ b) ≡ all_lent a ++ all_lent b
unfolding all_lent
all_append [] b = refl
all_append (x ∷ a) b = rw (all_append a b) (sym (append_assoc (file_of x) (all_lent a) (all_lent b)))

module _ (w c d : List ℕ) (ls : List Lent) (x : Outside w c d ls) (g : ℕ) where
  -- the first file of a group is handed back from where it stands to its end
  pub group_stretch_lem : (before : List Lent) (f : Lent) (after : List Lent) → FirstFile g ls before f after
      → group_stretch w g ≡ record { from = place_of c d before; to = place_of c d before + length (file_of f) }
  unfolding file_or_none files EachGroup
  group_stretch_lem before f after h =
      let all = before ++ (f ∷ after) in
      let so : EachGroup all = subst EachGroup h.lent_so x.outside_groups in
      let there : w ≡ tlv 0x60 c ++ (tlv 0x30 d ++ all_lent all) = x.outside_octets
      ∙ ap (λ (q : List Lent). tlv 0x60 c ++ (tlv 0x30 d ++ all_lent q)) h.lent_so in
      let most = x.outside_size in
      let a = parts_walked w most c d all so there in
      let o = a.0 in
      let p = files_place w c d all o a.1 a.4 there in
      let found = first_there before f after g (suc (length w)) w o.object.to a.1 most so p.1 h.none_before
      h.its_group a.4.files_walked in
      let place = place_sum c d before in
      let from : found.0.start ≡ place_of c d before = omega (arith, found.2, p.0) in
      let to : found.0.held.to ≡ place_of c d before + length (file_of f) = omega (arith, found.3, p.0) in
      stretch_so w g c d o a.1 a.2 a.4
      ∙ file_stretch w g a.1 found.0 (place_of c d before) (place_of c d before + length (file_of f)) found.1 from to

  -- so its octets are those of that whole file
  pub group_octets_lem : (before : List Lent) (f : Lent) (after : List Lent) → FirstFile g ls before f after
      → cut w (group_stretch w g) ≡ file_of f
  unfolding cut place_of all_lent
  group_octets_lem before f after h =
      let at = place_of c d before in
      let front = tlv 0x60 c ++ (tlv 0x30 d ++ all_lent before) in
      let gap : at + length (file_of f) - at ≡ length (file_of f) = omega arith in
      let split : all_lent ls ≡ all_lent before ++ (file_of f ++ all_lent after) = ap all_lent h.lent_so
      ∙ all_append before (f ∷ after) in
      let there : w ≡ front ++ (file_of f ++ all_lent after) =
      x.outside_octets ∙ rw split (sym (regroup (tlv 0x60 c) (tlv 0x30 d) (all_lent before) (file_of f ++ all_lent after))) in
      ap (cut w) (group_stretch_lem before f after h)
      ∙ ap (λ (n : ℕ). take n (drop at w)) gap
      ∙ ap (λ (q : List ℕ). take (length (file_of f)) (drop at q)) there
      ∙ ap (take (length (file_of f))) (drop_at front (file_of f ++ all_lent after) at refl)
      ∙ take_at (file_of f) (all_lent after) (length (file_of f)) refl
    where
      regroup : (p q r s : List ℕ) → (p ++ (q ++ r)) ++ s ≡ p ++ (q ++ (r ++ s))
      regroup p q r s = simp append_assoc

  -- no file of that group, or no group of that number: empty
  pub group_none : NoFile g ls → group_stretch w g ≡ record { from = 0; to = 0 }
  unfolding file_or_none EachGroup
  group_none none =
      let a = parts_walked w x.outside_size c d ls x.outside_groups x.outside_octets in
      stretch_so w g c d a.0 a.1 a.2 a.4 ∙ ap file_or_none (no_file w g a.1 (subst (NoFile g) (sym a.3) none))

-- groups are 1 to 16, without 6
group_number : (tag : ℕ) → is_group tag ≡ true → (1 ≤ group_of tag) × (group_of tag ≤ 16) × (group_of tag ≡ 6 → ⊥)
unfolding is_group group_of
group_number tag e =
    go (eqb tag 0x61) (eqb tag 0x75) (eqb tag 0x63) (eqb tag 0x76) (eqb tag 0x65) (leb 0x67 tag && leb tag 0x70) refl e
  where
    go : (a b c d f g : Bool) → leb 0x67 tag && leb tag 0x70 ≡ g
        → let n = cond a 1 (cond b 2 (cond c 3 (cond d 4 (cond f 5 (cond g (tag - 0x60) 0))))) in
        not (eqb n 0) ≡ true → (1 ≤ n) × (n ≤ 16) × (n ≡ 6 → ⊥)
    go true b c d f g p h = (omega arith, omega arith, λ k. omega arith)
    go false true c d f g p h = (omega arith, omega arith, λ k. omega arith)
    go false false true d f g p h = (omega arith, omega arith, λ k. omega arith)
    go false false false true f g p h = (omega arith, omega arith, λ k. omega arith)
    go false false false false true g p h = (omega arith, omega arith, λ k. omega arith)
    go false false false false false true p h =
        let both = and_both (leb 0x67 tag) (leb tag 0x70) p in
        let low : 0x67 ≤ tag = leb-true 0x67 tag both.0 in
        let high : tag ≤ 0x70 = leb-true tag 0x70 both.1 in
        (omega arith, omega arith, λ k. omega arith)
    go false false false false false false p h = absurd (false≢true h)

-- so a number that is no group's has no file: empty
pub group_other : (w c d : List ℕ) (ls : List Lent) → Outside w c d ls → (g : ℕ) → ((1 ≤ g) × (g ≤ 16) × (g ≡ 6 → ⊥) → ⊥)
    → group_stretch w g ≡ record { from = 0; to = 0 }
unfolding NoFile
group_other w c d ls x g h =
    group_none w c d ls x g
    (λ f m e. h (subst (λ (n : ℕ). (1 ≤ n) × (n ≤ 16) × (n ≡ 6 → ⊥)) e (group_number f.tag (x.outside_groups f m))))

-- where stage 1 or 2 fails: empty
pub group_refused : (w : List ℕ) (g : ℕ) → AreOctets w → ((c d : List ℕ) (ls : List Lent) → Outside w c d ls → ⊥)
    → group_stretch w g ≡ record { from = 0; to = 0 }
unfolding group_stretch file_or_none and_then
group_refused w g small h = go (walked w) (λ o e. let a = (walked_exactly w small).0 (o, e) in h a.0 a.1 a.2 a.3)
  where
    go : (m : Read Outer) → ((o : Outer) → m ≡ value o → ⊥)
        → file_or_none (and_then m (λ (o : Outer). and_then (files w o.object.to) (λ (fs : List File). first_file w g fs)))
        ≡ record { from = 0; to = 0 }
    go (value o) k = absurd (k o refl)
    go (refusal n p) k = refl

-- DEMAND 1: whatever was lent, the stretch starts before it ends, and ends no further than what was lent
pub group_within : (w : List ℕ) (g : ℕ)
    → ((group_stretch w g).from ≤ (group_stretch w g).to) × ((group_stretch w g).to ≤ length w)
unfolding group_stretch file_or_none files
group_within w g = go (and_then (walked w) (λ o. and_then (files w o.object.to) (λ fs. first_file w g fs))) refl
  where
    go : (m : Read File) → and_then (walked w) (λ o. and_then (files w o.object.to) (λ fs. first_file w g fs)) ≡ m
        → ((file_or_none m).from ≤ (file_or_none m).to) × ((file_or_none m).to ≤ length w)
    go (refusal n p) e = (omega arith, omega arith)
    go (value f) e =
        let a = first_value (walked w) _ f e in
        let b = first_value (files w a.0.object.to) _ f a.2 in
        let inside = files_in_lem (length w) _ w (le_refl (length w)) a.0.object.to b.0 b.1 in
        let k = first_in (length w) w g b.0 f inside b.2 in
        (k.0, k.2)

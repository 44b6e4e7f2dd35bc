-- DEMAND 2, stage 2, the group files: they are walked exactly where the joined encodings of files with group tags stand.
use Prim.Native.Nat.{ℕ, zero, suc, ◌+◌, ◌-◌, ◌≤◌, ◌<◌}
use mathlib.Core.Path.{◌≡◌, refl, ap, sym, ◌∙◌, subst}
use mathlib.Core.Bool.{Bool, true, false, cond}
use mathlib.Core.List.{List, [], ◌∷◌, ◌++◌}
use mathlib.Core.Logic.{inl, inr}
use native.Mathlib.Omega.{arith}
use borrow.Author.Tests.{leb-true, le-leb, lt-leb, ne_eqb, ltb-false, ltb-true, not-true, eqb-false}
use lib.Dec.{eqb, leb, ltb}
use lib.ListN.{length, drop, get_or, length-append, length-drop, drop_of_length-le}
use Rattle.tlv.specs.declared.Stretch.{Stretch}
use Rattle.tlv.specs.Read.{Read, value, and_then}
use Rattle.tlv.specs.Element.{tlv, element}
use Rattle.tlv.proofs.Joined.{never_value, same_value, kept_value, first_value, value_then}
use Rattle.tlv.proofs.Encoded.{Stands, length-tlv, some_head, tag_first}
use Rattle.tlv.specs.Cut.{cut}
use Rattle.tlv.specs.Tags.{group_of, is_group}
use Rattle.outer.specs.declared.File.{File}
use Rattle.outer.specs.Outer.{file_at, files_from}
use Rattle.chip.specs.Files.{file_octets}
use Rattle.zone.specs.Octets.{AreOctets}
use Rattle.presentation_theorems.specs.Presented.{Lent, file_of, all_lent, IsIn}
use Rattle.tlv.proofs.Standing.{element_read, cut_there, place_behind, whole_there}
use Rattle.presentation_theorems.proofs.Elements.{read_element}

-- ---- group tags

no_group : (tag : ℕ) → 256 ≤ tag → group_of tag ≡ 0
unfolding group_of
no_group tag h =
    rw (
      ne_eqb tag 0x61 (λ e. omega arith),
      ne_eqb tag 0x75 (λ e. omega arith),
      ne_eqb tag 0x63 (λ e. omega arith),
      ne_eqb tag 0x76 (λ e. omega arith),
      ne_eqb tag 0x65 (λ e. omega arith),
      le-leb 0x67 tag (omega arith),
      lt-leb tag 0x70 (omega arith),
    )

pub group_below : (tag : ℕ) → is_group tag ≡ true → tag < 256
unfolding is_group
group_below tag e = go (ltb tag 256) refl
  where
    go : (b : Bool) → ltb tag 256 ≡ b → tag < 256
    go true f = ltb-true tag 256 f
    go false f = absurd (eqb-false (group_of tag) 0 (not-true (eqb (group_of tag) 0) e) (no_group tag (ltb-false tag 256 f)))

-- ---- the file that was walked

unfoldable pub lent_at : List ℕ → File → Lent
lent_at w f = record { tag = get_or w f.start 0; content = cut w f.held }

unfoldable pub lent_in : List ℕ → List File → List Lent
lent_in w [] = []
lent_in w (f ∷ fs) = lent_at w f ∷ lent_in w fs

unfoldable pub FileStands : List ℕ → File → Type 0
FileStands w f = Stands w f.start (get_or w f.start 0) (cut w f.held) (drop f.held.to w) f.held

pub whole_file : (w : List ℕ) (f : File) → FileStands w f → file_octets w f ≡ file_of (lent_at w f)
unfolding FileStands file_octets file_of lent_at cut
whole_file w f h = whole_there w f.start (get_or w f.start 0) (cut w f.held) (drop f.held.to w) f.held h

unfoldable pub EachStands : List ℕ → List File → Type 0
EachStands w fs = (f : File) → IsIn f fs → FileStands w f

unfoldable pub EachGroup : List Lent → Type 0
EachGroup ls = (l : Lent) → IsIn l ls → is_group l.tag ≡ true

pub record FilesRead (w : List ℕ) (at : ℕ) (fs : List File) : Type 0 where
  pub files_there : drop at w ≡ all_lent (lent_in w fs)
  pub files_group : EachGroup (lent_in w fs)
  pub files_stand : EachStands w fs

no_files : (w : List ℕ) (at : ℕ) → length w ≤ at → FilesRead w at []
unfolding all_lent lent_in EachGroup EachStands IsIn
no_files w at h = record { files_there = drop_of_length-le w h; files_group = λ x k. absurd k; files_stand = λ x k. absurd k }

one_stands : (w : List ℕ) (f : File) (fs : List File) → FileStands w f → EachStands w fs → EachStands w (f ∷ fs)
unfolding EachStands IsIn
one_stands w f fs h rest g (inl e) = subst (FileStands w) (sym e) h
one_stands w f fs h rest g (inr m) = rest g m

one_group : (l : Lent) (ls : List Lent) → is_group l.tag ≡ true → EachGroup ls → EachGroup (l ∷ ls)
unfolding EachGroup IsIn
one_group l ls h rest k (inl e) = subst (λ (x : Lent). is_group x.tag ≡ true) (sym e) h
one_group l ls h rest k (inr m) = rest k m

module _ (w : List ℕ) (at : ℕ) where
  file_read : AreOctets w → (held : Stretch) → file_at w at ≡ value held
      → (is_group (get_or w at 0) ≡ true) × FileStands w (record { start = at; held = held })
  unfolding file_at FileStands
  file_read small held e =
      let a = kept_value (is_group (get_or w at 0)) (element w at (get_or w at 0)) _ at held e in
      (a.0, read_element w at (get_or w at 0) small held a.1)

  more_files : (held : Stretch) (fs : List File) → is_group (get_or w at 0) ≡ true
      → FileStands w (record { start = at; held = held }) → FilesRead w held.to fs
      → FilesRead w at (record { start = at; held = held } ∷ fs)
  unfolding all_lent lent_in lent_at file_of FileStands
  more_files held fs g h rest =
      let f : File = record { start = at; held = held } in
      record {
        files_there = h.octets_there ∙ ap (λ (l : List ℕ). tlv (get_or w at 0) (cut w held) ++ l) rest.files_there;
        files_group = one_group (lent_at w f) (lent_in w fs) g rest.files_group;
        files_stand = one_stands w f fs h rest.files_stand;
      }

  pub behind_file_lem : (held : Stretch) → FileStands w (record { start = at; held = held })
      → (at < held.to) × (held.to ≤ length w)
  unfolding FileStands
  behind_file_lem held h =
      let p = place_behind w at (get_or w at 0) (cut w held) (drop held.to w) held h in
      (omega (arith, p.0, p.1), p.2)

-- from a place on: what is walked is what stands there
pub files_read : (more : ℕ) (w : List ℕ) (at : ℕ) (fs : List File) → AreOctets w → at ≤ length w → files_from more w at ≡ value fs
    → FilesRead w at fs
unfolding files_from
files_read zero w at fs small h e = absurd (never_value _ at fs e)
files_read (suc more) w at fs small h e =
    go (leb (length w) at) refl e (λ (n : ℕ) (gs : List File) i f. files_read more w n gs small i f)
  where
    onwards : Stretch → Read (List File)
    onwards held = and_then (files_from more w held.to) (λ (rest : List File). value (record { start = at; held = held } ∷ rest))

    go : (b : Bool) → leb (length w) at ≡ b → cond b (value []) (and_then (file_at w at) onwards) ≡ value fs
        → ((n : ℕ) (gs : List File) → n ≤ length w → files_from more w n ≡ value gs → FilesRead w n gs)
        → FilesRead w at fs
    go true p f rest = subst (FilesRead w at) (same_value f) (no_files w at (leb-true (length w) at p))
    go false p f rest =
        let a = first_value (file_at w at) onwards fs f in
        let held = a.0 in
        let r = file_read w at small held a.1 in
        let places = behind_file_lem w at held r.1 in
        let b = first_value (files_from more w held.to) (λ (q : List File). value (record { start = at; held = held } ∷ q)) fs
        a.2 in
        let last = rest held.to b.0 places.1 b.1 in
        subst (FilesRead w at) (same_value b.2) (more_files w at held b.0 r.0 r.1 last)

-- no file is empty
pub some_file : (l : Lent) → 1 ≤ length (file_of l)
unfolding file_of
some_file l = omega (arith, length-tlv l.tag l.content, some_head l.tag (length l.content))

-- one file that stands at a place
pub read_file : (w : List ℕ) (at : ℕ) (l : Lent) (rest : List ℕ) → length w ≤ 65535 → is_group l.tag ≡ true
    → drop at w ≡ file_of l ++ rest
    → (held : Stretch) × (file_at w at ≡ value held) × (lent_at w (record { start = at; held = held }) ≡ l)
    × FileStands w (record { start = at; held = held }) × (drop held.to w ≡ rest)
unfolding file_at file_of lent_at FileStands
read_file w at l rest most g e =
    let t = l.tag in
    let a = element_read w at t most l.content rest e in
    let held = a.0 in
    let first : get_or w at 0 ≡ t = tag_first w at t l.content rest (group_below t g) e in
    let there : cut w held ≡ l.content = cut_there w at t l.content rest held a.2 in
    let next : drop held.to w ≡ rest = a.2.rest_there in
    let stands_so : Stands w at (get_or w at 0) (cut w held) (drop held.to w) held =
    subst (λ (n : ℕ). Stands w at n (cut w held) (drop held.to w) held) (sym first)
    (subst (λ (c : List ℕ). Stands w at t c (drop held.to w) held) (sym there)
    (subst (λ (r : List ℕ). Stands w at t l.content r held) (sym next) a.2)) in (
      held,
      rw (first, g) a.1,
      λ i. record { tag = first i; content = there i },
      stands_so,
      next,
    )

pub read_files : (more : ℕ) (w : List ℕ) (at : ℕ) (ls : List Lent) → length w ≤ 65535 → at ≤ length w → length w < at + more
    → EachGroup ls
    → drop at w ≡ all_lent ls
    → (fs : List File) × (files_from more w at ≡ value fs) × (lent_in w fs ≡ ls) × EachStands w fs
unfolding files_from all_lent lent_in EachGroup IsIn
read_files zero w at ls most h k g e = absurd (omega arith)
read_files (suc more) w at [] most h k g e =
    let none : length w - at ≡ 0 = sym (length-drop at w) ∙ ap length e in
    let end : length w ≤ at = omega arith in
    ([], rw (le-leb (length w) at end), refl, (no_files w at end).files_stand)
read_files (suc more) w at (l ∷ ls) most h k g e =
    let some : length w - at ≡ length (file_of l) + length (all_lent ls) = sym (length-drop at w) ∙ ap length e
    ∙ length-append (file_of l) (all_lent ls) in
    let a = read_file w at l (all_lent ls) most (g l (inl refl)) e in
    let held = a.0 in
    let f : File = record { start = at; held = held } in
    let places = behind_file_lem w at held a.3 in
    let b = read_files more w held.to ls most places.1 (omega (arith, places.0)) (λ x m. g x (inr m)) a.4 in
    let same : lent_at w f ≡ l = a.2 in
    let rest : lent_in w b.0 ≡ ls = b.2 in
    let over : leb (length w) at ≡ false = lt-leb (length w) at (omega (arith, some_file l)) in (
      f ∷ b.0,
      rw over
          (value_then (file_at w at) (λ (u : Stretch). and_then (files_from more w u.to)
          (λ (q : List File). value (record { start = at; held = u } ∷ q))) held (value (f ∷ b.0)) a.1
          (value_then (files_from more w held.to) (λ (q : List File). value (f ∷ q)) b.0 (value (f ∷ b.0)) b.1 refl)),
      cc,
      one_stands w f b.0 a.3 b.3,
    )

-- Every refusal that comes before the text has what a refusal by one of a presentation's numbers has whose place is no further
-- than an end: the stages one by one.
use Prim.Native.Nat.{ℕ, zero, suc, ◌+◌, ◌≤◌}
use mathlib.Core.Path.{◌≡◌, refl, subst}
use mathlib.Core.Bool.{Bool, true, false, cond}
use mathlib.Core.List.{List, [], ◌∷◌}
use native.Mathlib.Omega.{arith}
use lib.Dec.{eqb, leb}
use lib.ListN.{length, take, get_or}
use Rattle.lent.specs.Octets.{stands}
use Rattle.lent.proofs.Bools.{either_way}
use Rattle.refusal.specs.Numbers.{Why, by}
use Rattle.refusal.specs.Calls.{of_presentation, tells}
use Rattle.refusal.specs.Outcome.{unless}
use Rattle.refusal.proofs.Each.{Each, each_passed, each_refused, each_else, each_unless}
use Rattle.tlv.specs.declared.Stretch.{Stretch}
use Rattle.tlv.specs.Read.{value, and_then}
use Rattle.tlv.specs.Element.{element}
use Rattle.tlv.specs.Cut.{cut, has_octets}
use Rattle.tlv.specs.Tags.{is_group, group_of}
use Rattle.tlv.specs.Tags as Tag
use Rattle.tlv.proofs.Past.{value_within}
use Rattle.tlv.proofs.Stretches.{cut_within}
use Rattle.tlv.proofs.Joined.{first_value, checked_value, kept_value, never_value, same_value}
use Rattle.tlv.proofs.Each.{EachRead, each_value, each_refusal, each_then, each_checked, each_element, each_end}
use Rattle.tlv.specs.Versions.{both}
use Rattle.efcom.specs.EfCom as efcom
use Rattle.object.specs.Object as object
use Rattle.object.proofs.EntryPlaces.{entry_stands}
use Rattle.outer.specs.declared.File.{File}
use Rattle.outer.specs.declared.Outer.{Outer}
use Rattle.outer.specs.Outer.{size_check, file_at, files_from, files, outer, walked}
use Rattle.chip.specs.Versions.{agrees, versions_check}
use Rattle.chip.specs.Files.{is_expected, is_digested, file_check, files_check}
use Rattle.chip.specs.Presentation.{first_file}
use Rattle.presentation_theorems.specs.Expected.{text_stretch}
use Rattle.presentation_theorems.proofs.Elements.{take_most}

-- ---- where entries and files that were read stand

unfoldable EntriesIn : (last : ℕ) → List object.GroupHash → Type 0
EntriesIn last [] = Unit {0}
EntriesIn last (e ∷ es) = (e.place ≤ last) × EntriesIn last es

-- it starts before it ends, and both no further
abbrev pub FileIn : (last : ℕ) → File → Type 0
FileIn last f = (f.start ≤ f.held.to) × (f.held.from ≤ last) × (f.held.to ≤ last)

unfoldable pub FilesIn : (last : ℕ) → List File → Type 0
FilesIn last [] = Unit {0}
FilesIn last (f ∷ fs) = FileIn last f × FilesIn last fs

module _ (last : ℕ) where
  entries_in_lem : (k : ℕ) (s : List ℕ) → length s ≤ last → (at : ℕ) (es : List object.GroupHash)
      → object.entries_from k s at ≡ value es → EntriesIn last es
  unfolding object.entries_from EntriesIn
  entries_in_lem zero s most at es h = absurd (never_value _ at es h)
  entries_in_lem (suc k) s most at es h = go (leb (length s) at) h (entries_in_lem k s most)
    where
      go : (b : Bool)
          → cond b (value []) (and_then (object.entry_at s at) (λ e. and_then (object.entries_from k s e.end)
          (λ rest. value (e ∷ rest)))) ≡ value es
          → ((from : ℕ) (rest : List object.GroupHash) → object.entries_from k s from ≡ value rest → EntriesIn last rest)
          → EntriesIn last es
      go true q below = subst (EntriesIn last) (same_value q) tt
      go false q below =
          let one = first_value (object.entry_at s at) _ es q in
          let more = first_value (object.entries_from k s one.0.end) _ es one.2 in
          let there = entry_stands s at one.0 one.1 in
          subst (EntriesIn last) (same_value more.2)
          (omega (arith, there.1, there.2.ahead, most), below one.0.end more.0 more.1)

  file_in : (w : List ℕ) (at : ℕ) → length w ≤ last → (v : Stretch) → file_at w at ≡ value v
      → FileIn last (record { start = at; held = v })
  unfolding file_at
  file_in w at most v e =
      let tag = get_or w at 0 in
      let k = value_within w at tag v (kept_value (is_group tag) (element w at tag) (by 10) at v e).1 in
      (omega (arith, k.0, k.1), omega (arith, k.1, k.2), omega (arith, k.2))

  pub files_in_lem : (k : ℕ) (w : List ℕ) → length w ≤ last → (at : ℕ) (fs : List File) → files_from k w at ≡ value fs
      → FilesIn last fs
  unfolding files_from FilesIn
  files_in_lem zero w most at fs h = absurd (never_value _ at fs h)
  files_in_lem (suc k) w most at fs h = go (leb (length w) at) h (files_in_lem k w most)
    where
      go : (b : Bool)
          → cond b (value []) (and_then (file_at w at) (λ held. and_then (files_from k w held.to)
          (λ rest. value (record { start = at; held = held } ∷ rest)))) ≡ value fs
          → ((from : ℕ) (rest : List File) → files_from k w from ≡ value rest → FilesIn last rest) → FilesIn last fs
      go true q below = subst (FilesIn last) (same_value q) tt
      go false q below =
          let one = first_value (file_at w at) _ fs q in
          let more = first_value (files_from k w one.0.to) _ fs one.2 in
          let there = file_in w at most one.0 one.1 in
          subst (FilesIn last) (same_value more.2) (there, below one.0.to more.0 more.1)

  pub first_in : (w : List ℕ) (g : ℕ) (fs : List File) (f : File) → FilesIn last fs → first_file w g fs ≡ value f → FileIn last f
  unfolding first_file FilesIn
  first_in w g [] f h e = absurd (never_value _ (length w) f e)
  first_in w g (x ∷ fs) f h e = go (eqb (group_of (get_or w x.start 0)) g) e (first_in w g fs f h.1)
    where
      go : (b : Bool) → cond b (value x) (first_file w g fs) ≡ value f → (first_file w g fs ≡ value f → FileIn last f)
          → FileIn last f
      go true q below = subst (FileIn last) (same_value q) h.0
      go false q below = below q

  outer_ends : (w : List ℕ) → length w ≤ last → (o : Outer) → walked w ≡ value o
      → (o.efcom.from ≤ last) × (o.object.from ≤ last) × (o.object.to ≤ last) × (o.efcom.to ≤ last)
  unfolding walked outer
  outer_ends w most o e =
      let size = checked_value (size_check w) _ o e in
      let one = first_value (element w 0 Tag.ef_com) _ o size.1 in
      let two = first_value (element w one.0.to Tag.sequence) _ o one.2 in
      let all = first_value (files w two.0.to) _ o two.2 in
      let same : record { efcom = one.0; object = two.0 } ≡ o = same_value all.2 in
      let a = value_within w 0 Tag.ef_com one.0 one.1 in
      let b = value_within w one.0.to Tag.sequence two.0 two.1 in
      rw (← same) (omega (arith, a.1, a.2), omega (arith, b.1, b.2), omega (arith, b.2), omega (arith, a.2))

-- ---- the refusals

module _ (P : Why → ℕ → Type 0) (last : ℕ)
    (plain : (n q : ℕ) → tells of_presentation (by n) ≡ true → q ≤ last → P (by n) q) where
  -- an element is refused at its tag, and ends no further
  at_element : (s : List ℕ) (at tag : ℕ) → at ≤ last → EachRead P (element s at tag)
  at_element s at tag h = each_element P s at tag (plain 10 at refl h)

  ends : (s : List ℕ) (at tag : ℕ) → length s ≤ last → (v : Stretch) → element s at tag ≡ value v
      → (v.from ≤ length s) × (v.from ≤ last) × (v.to ≤ last)
  ends s at tag h v e =
      let k = value_within s at tag v e in
      (omega (arith, k.1, k.2), omega (arith, k.1, k.2), omega (arith, k.2))

  rule : (b : Bool) (n q : ℕ) → tells of_presentation (by n) ≡ true → q ≤ last → Each P (unless b n q)
  rule b n q h k = each_unless P b n q (plain n q h k)

  -- ---- stage 3

  known : (place : ℕ) (l : List ℕ) → place + length l ≤ last → Each P (efcom.known_from place l)
  unfolding efcom.known_from
  known place [] h = each_passed P
  known place (c ∷ l) h =
      either_way (Each P) (is_group c) _ _ (known (suc place) l (omega arith))
      (each_refused P (by 11) place (plain 11 place refl (omega arith)))

  once : (place : ℕ) (before l : List ℕ) → place + length l ≤ last → Each P (efcom.once_from place before l)
  unfolding efcom.once_from
  once place before [] h = each_passed P
  once place before (c ∷ l) h =
      either_way (Each P) (stands c before) _ _ (each_refused P (by 11) place (plain 11 place refl (omega arith)))
      (once (suc place) (c ∷ before) l (omega arith))

  tag_list_lem : (s : List ℕ) (at : ℕ) → length s ≤ last → at ≤ last → EachRead P (efcom.from_tag_list s at)
  unfolding efcom.from_tag_list efcom.tags_check
  tag_list_lem s at most h = each_then P (element s at Tag.tag_list) _ (at_element s at Tag.tag_list h) (λ v e.
      let k = ends s at Tag.tag_list most v e in
      let list : v.from + length (cut s v) ≤ last = omega (arith, cut_within s v k.0, most) in
      each_checked P (efcom.tags_check s v) _
      (each_else P (efcom.known_from v.from (cut s v)) _ (known v.from (cut s v) list) (once v.from [] (cut s v) list))
      (each_checked P _ _ (each_end P s v.to (plain 10 v.to refl k.2)) (each_value P v)))

  efcom_each : (w : List ℕ) (v : Stretch) → length w ≤ last → v.from ≤ last → EachRead P (efcom.read_ef_com both w v)
  unfolding efcom.read_ef_com efcom.from_version efcom.from_unicode
  efcom_each w v most h =
      let s = take v.to w in
      let at = v.from in
      let less = take_most v.to last w most in
      each_then P (element s at Tag.lds_version) _ (at_element s at Tag.lds_version h) (λ a e.
      let j = (ends s at Tag.lds_version less a e).2 in
      each_checked P (unless (efcom.is_version both s a) 11 at) _ (rule (efcom.is_version both s a) 11 at refl h)
      (each_then P (element s a.to Tag.unicode_version) _ (at_element s a.to Tag.unicode_version j) (λ b f.
      each_checked P (unless (efcom.is_unicode s b) 11 a.to) _ (rule (efcom.is_unicode s b) 11 a.to refl j)
      (each_then P (efcom.from_tag_list s b.to) _
      (tag_list_lem s b.to less (ends s a.to Tag.unicode_version less b f).2) (λ t g. each_value P _)))))

  -- ---- stage 4

  entry_each : (s : List ℕ) (at : ℕ) → length s ≤ last → at ≤ last → EachRead P (object.entry_at s at)
  unfolding object.entry_at object.number_at object.digest_at
  entry_each s at most h = each_then P (element s at Tag.sequence) _ (at_element s at Tag.sequence h) (λ v e.
      let l = take v.to s in
      let less = take_most v.to last s most in
      let i = (ends s at Tag.sequence most v e).1 in
      each_then P (element l v.from Tag.integer) _ (at_element l v.from Tag.integer i) (λ a f.
      let j = (ends l v.from Tag.integer less a f).2 in
      each_checked P (unless (object.is_group_number l a) 12 v.from) _ (rule (object.is_group_number l a) 12 v.from refl i)
      (each_then P (element l a.to Tag.octet_string) _ (at_element l a.to Tag.octet_string j) (λ b g.
      let k = (ends l a.to Tag.octet_string less b g).2 in
      each_checked P (unless (has_octets 32 b) 12 a.to) _ (rule (has_octets 32 b) 12 a.to refl j)
      (each_checked P _ _ (each_end P l b.to (plain 10 b.to refl k)) (each_value P _))))))

  entries_each : (k : ℕ) (s : List ℕ) (at : ℕ) → length s ≤ last → at ≤ last → EachRead P (object.entries_from k s at)
  unfolding object.entries_from
  entries_each zero s at most h = each_refusal P (List object.GroupHash) (by 10) at (plain 10 at refl h)
  entries_each (suc k) s at most h =
      either_way (EachRead P) (leb (length s) at) _ _ (each_value P [])
      (each_then P (object.entry_at s at) _ (entry_each s at most h) (λ e f.
      let there = (entry_stands s at e f).1 in
      each_then P (object.entries_from k s e.end) _ (entries_each k s e.end most (omega (arith, there, most)))
      (λ rest g. each_value P _)))

  numbers_each : (before : List ℕ) (es : List object.GroupHash) → EntriesIn last es → Each P (object.numbers_once before es)
  unfolding object.numbers_once EntriesIn
  numbers_each before [] h = each_passed P
  numbers_each before (e ∷ es) h =
      either_way (Each P) (stands e.group before) _ _ (each_refused P (by 12) e.place (plain 12 e.place refl h.0))
      (numbers_each (e.group ∷ before) es h.1)

  strings_each : (s : List ℕ) (at : ℕ) → length s ≤ last → at ≤ last → EachRead P (object.strings_at s at)
  unfolding object.strings_at
  strings_each s at most h =
      each_then P (element s at Tag.printable_string) _ (at_element s at Tag.printable_string h) (λ a e.
      let j = (ends s at Tag.printable_string most a e).2 in
      each_then P (element s a.to Tag.printable_string) _ (at_element s a.to Tag.printable_string j) (λ b f.
      each_checked P _ _ (each_end P s b.to (plain 10 b.to refl (ends s a.to Tag.printable_string most b f).2))
      (each_value P _)))

  version_each : (newer : Bool) (s : List ℕ) (at : ℕ) → length s ≤ last → at ≤ last → EachRead P (object.version_at newer s at)
  unfolding object.version_at object.sequence_at
  version_each false s at most h = each_checked P _ _ (each_end P s at (plain 10 at refl h)) (each_value P _)
  version_each true s at most h =
      each_then P (object.sequence_at s at) _
      (each_then P (element s at Tag.sequence) _ (at_element s at Tag.sequence h) (λ v e.
      let k = ends s at Tag.sequence most v e in
      each_then P (object.strings_at (take v.to s) v.from) _
      (strings_each (take v.to s) v.from (take_most v.to last s most) k.1) (λ t f.
      each_checked P _ _ (each_end P s v.to (plain 10 v.to refl k.2)) (each_value P t))))
      (λ t e. each_value P _)

  object_each : (w : List ℕ) (v : Stretch) → length w ≤ last → v.from ≤ last → EachRead P (object.read_object both w v)
  unfolding object.read_object object.from_version object.from_algorithm object.from_entry_list object.entries
      object.entries_check
  object_each w v most h =
      let s = take v.to w in
      let at = v.from in
      let less = take_most v.to last w most in
      each_then P (element s at Tag.integer) _ (at_element s at Tag.integer h) (λ a e.
      let i = (ends s at Tag.integer less a e).2 in
      each_checked P (unless (object.is_version both s a) 12 at) _ (rule (object.is_version both s a) 12 at refl h)
      (each_then P (element s a.to Tag.sequence) _ (at_element s a.to Tag.sequence i) (λ b f.
      let j = (ends s a.to Tag.sequence less b f).2 in
      each_checked P (unless (object.is_sha256 (cut s b)) 13 a.to) _ (rule (object.is_sha256 (cut s b)) 13 a.to refl i)
      (each_then P (element s b.to Tag.sequence) _ (at_element s b.to Tag.sequence j) (λ l g.
      let k = ends s b.to Tag.sequence less l g in
      let inner = take_most l.to last s less in
      each_then P (object.entries (take l.to s) l.from) _ (entries_each _ (take l.to s) l.from inner k.1)
      (λ es m.
      each_checked P (object.entries_check es b.to) _
      (each_else P (object.numbers_once [] es) _ (numbers_each [] es (entries_in_lem last _ (take l.to s) inner l.from es m))
      (rule (leb 2 (length es)) 12 b.to refl j))
      (each_then P (object.version_at _ s l.to) _ (version_each _ s l.to less k.2) (λ y q. each_value P _))))))))

  -- ---- stages 1 and 2

  file_each : (w : List ℕ) (at : ℕ) → at ≤ last → EachRead P (file_at w at)
  unfolding file_at
  file_each w at h = either_way (EachRead P) (is_group (get_or w at 0)) _ _ (at_element w at (get_or w at 0) h)
      (each_refusal P Stretch (by 10) at (plain 10 at refl h))

  files_each : (k : ℕ) (w : List ℕ) (at : ℕ) → length w ≤ last → at ≤ last → EachRead P (files_from k w at)
  unfolding files_from
  files_each zero w at most h = each_refusal P (List File) (by 10) at (plain 10 at refl h)
  files_each (suc k) w at most h =
      either_way (EachRead P) (leb (length w) at) _ _ (each_value P [])
      (each_then P (file_at w at) _ (file_each w at h) (λ held e.
      each_then P (files_from k w held.to) _ (files_each k w held.to most (file_in last w at most held e).2)
      (λ rest f. each_value P _)))

  outer_each : (w : List ℕ) → length w ≤ last → EachRead P (walked w)
  unfolding walked size_check outer files
  outer_each w most =
      each_checked P (size_check w) _ (rule (leb (length w) 65535) 1 0 refl (omega arith))
      (each_then P (element w 0 Tag.ef_com) _ (at_element w 0 Tag.ef_com (omega arith)) (λ a e.
      let i = (ends w 0 Tag.ef_com most a e).2 in
      each_then P (element w a.to Tag.sequence) _ (at_element w a.to Tag.sequence i) (λ b f.
      each_then P (files w b.to) _ (files_each _ w b.to most (ends w a.to Tag.sequence most b f).2)
      (λ all g. each_value P _))))

  -- ---- stage 5

  signed_each : (w tags before : List ℕ) (es : List object.GroupHash) (fs : List File) → FilesIn last fs
      → Each P (files_check w tags before es fs)
  unfolding files_check file_check FilesIn
  signed_each w tags before es [] h = each_passed P
  signed_each w tags before es (f ∷ fs) h =
      let tag = get_or w f.start 0 in
      let there : f.start ≤ last = omega (arith, h.0.0, h.0.2) in
      each_else P (file_check w tags before es f tag) _
      (each_else P (unless (is_expected tags before es tag) 14 f.start) _
      (rule (is_expected tags before es tag) 14 f.start refl there) (rule (is_digested w es f tag) 15 f.start refl there))
      (signed_each w tags (tag ∷ before) es fs h.1)

  -- ---- stage 6, down to the text

  first_each : (w : List ℕ) (g : ℕ) (fs : List File) → length w ≤ last → EachRead P (first_file w g fs)
  unfolding first_file
  first_each w g [] most = each_refusal P File (by 14) (length w) (plain 14 (length w) refl most)
  first_each w g (f ∷ fs) most =
      either_way (EachRead P) (eqb (group_of (get_or w f.start 0)) g) _ _ (each_value P f) (first_each w g fs most)

  pub before_text : (w : List ℕ) → length w ≤ last → EachRead P (text_stretch w)
  unfolding text_stretch files versions_check
  before_text w most =
      each_then P (walked w) _ (outer_each w most) (λ o e.
      let parts = outer_ends last w most o e in
      each_then P (efcom.read_ef_com both w o.efcom) _ (efcom_each w o.efcom most parts.0) (λ c f.
      each_then P (object.read_object both w o.object) _ (object_each w o.object most parts.1) (λ y g.
      each_checked P (versions_check w o.efcom.to c y.version) _
      (rule (agrees w c y.version) 19 o.efcom.to refl parts.3)
      (each_then P (files w o.object.to) _ (files_each _ w o.object.to most parts.2) (λ fs h.
      let inside = files_in_lem last _ w most o.object.to fs h in
      each_checked P (files_check w (cut w c.tags) [] y.entries fs) _
      (signed_each w (cut w c.tags) [] y.entries fs inside)
      (each_then P (first_file w 1 fs) _ (first_each w 1 fs most) (λ x i.
      let s = take x.held.to w in
      let less = take_most x.held.to last w most in
      let at = (first_in last w 1 fs x inside i).1 in
      each_then P (element s x.held.from Tag.text) _ (at_element s x.held.from Tag.text at) (λ v j.
      each_checked P _ _
      (each_end P s v.to (plain 10 v.to refl (ends s x.held.from Tag.text less v j).2)) (each_value P v)))))))))

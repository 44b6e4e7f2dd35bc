-- REQUEST 2026-04: presentations accepted before keep their record (`accepted_kept`); no `0107` one refused before is accepted
-- now (`refused_still`); and a `0107` one with object version 0 keeps its whole answer (`older_same`).
use Prim.Native.Nat.{ℕ}
use mathlib.Core.Path.{◌≡◌, refl, ap, sym, ◌∙◌}
use mathlib.Core.Bool.{Bool, true, false, not, ◌&&◌, ◌||◌, false≢true}
use mathlib.Core.List.{List, []}
use borrow.Author.Tests.{eqb-true}
use lib.Dec.{eqb}
use lib.ListN.{take, get_or}
use Rattle.lent.specs.Octets.{alike}
use Rattle.lent.proofs.Bools.{and_both}
use Rattle.refusal.specs.Numbers.{Why}
use Rattle.refusal.specs.Outcome.{passed, refused, unless}
use Rattle.refusal.proofs.Outcomes.{refused_not_passed, unless_kept, kept_unless}
use Rattle.zone.specs.declared.record.Record.{Record}
use Rattle.text.specs.Read.{Answer}
use Rattle.tlv.specs.declared.Stretch.{Stretch}
use Rattle.tlv.specs.Read.{Read, value, and_then, checked}
use Rattle.tlv.specs.Element.{element}
use Rattle.tlv.specs.Cut.{cut, has_octets}
use Rattle.tlv.specs.Tags as Tag
use Rattle.tlv.specs.Versions.{Known, former, both, lds17, lds18}
use Rattle.tlv.proofs.Onward.{stretch_read}
use Rattle.tlv.proofs.Joined.{same_value, first_value, value_then, then_same, checked_value, value_checked}
use Rattle.efcom.specs.declared.Common.{Common}
use Rattle.efcom.specs.EfCom.{from_tag_list, is_unicode, from_unicode, is_version, from_version, read_ef_com}
use Rattle.object.specs.declared.strings.Strings.{Strings}
use Rattle.object.specs.declared.strings.Version.{Version}
use Rattle.object.specs.declared.strings.Version.TheVariants.{Zero, One}
use Rattle.object.specs.Object.{Said, entries, entries_check, sequence_at, version_at, from_entry_list, is_sha256, from_algorithm}
use Rattle.object.specs.Object.{read_object}
use Rattle.object.specs.Object as object
use Rattle.outer.specs.declared.Outer.{Outer}
use Rattle.outer.specs.Outer.{files, walked}
use Rattle.chip.specs.Versions.{agrees, versions_check}
use Rattle.chip.specs.Files.{files_check}
use Rattle.group_text.specs.Text.{answer_by}
use Rattle.chip.specs.Presentation.{group_one, decided, read_stages, read_presentation}
use Rattle.tlv.specs.Places.{stretch_at}
use Rattle.row_theorems.proofs.Rows.{under_value}
use Rattle.presentation_theorems.proofs.FirstFailing.{parts, outside_checks, outer_rows}
use Rattle.presentation_theorems.proofs.Acceptance.{passed_value}
use Rattle.history.specs.Versions.{decided_formerly, read_formerly, lds_version, object_version}

-- ---- a rule of two parts, of which one knows more

grown : (h a b : Bool) → h && a ≡ true → h && (a || b) ≡ true
grown true true b e = refl
grown true false b e = absurd (false≢true e)
grown false a b e = absurd (false≢true e)

alone : (h a b : Bool) → b ≡ false → h && (a || b) ≡ h && a
alone true true b e = refl
alone true false b e = e
alone false a b e = refl

-- ---- stage 3

module _ (s : List ℕ) (v : Stretch) where
  version_grown : is_version former s v ≡ true → is_version both s v ≡ true
  unfolding is_version
  version_grown = grown (has_octets 4 v) (alike (cut s v) lds17) (alike (cut s v) lds18)

  version_same : alike (cut s v) lds18 ≡ false → is_version both s v ≡ is_version former s v
  unfolding is_version
  version_same = alone (has_octets 4 v) (alike (cut s v) lds17) (alike (cut s v) lds18)

  former_older : is_version former s v ≡ true → not (alike (cut s v) lds17) ≡ false
  unfolding is_version
  former_older e = ap not (and_both (has_octets 4 v) (alike (cut s v) lds17) e).1

-- what is said is what was asked for
unicode_newer : (newer : Bool) (s : List ℕ) (at : ℕ) (c : Common) → from_unicode newer s at ≡ value c → newer ≡ c.newer
unfolding from_unicode
unicode_newer newer s at c e =
    let a = first_value (element s at Tag.unicode_version) _ c e in
    let b = checked_value (unless (is_unicode s a.0) 11 at) _ c a.2 in
    let d = first_value (from_tag_list s a.0.to) _ c b.1 in
    ap (λ (x : Common). x.newer) (same_value d.2)

module _ (w : List ℕ) (e : Stretch) where
  abbrev in_common : List ℕ
  in_common = take e.to w

  abbrev then_unicode : Known → Stretch → Read Common
  then_unicode known v =
      checked (unless (is_version known in_common v) 11 e.from)
      (from_unicode (not (alike (cut in_common v) lds17)) in_common v.to)

  -- what was read of EF.COM, step by step
  efcom_steps : (known : Known) (c : Common) → read_ef_com known w e ≡ value c
      → (v : Stretch) × (element in_common e.from Tag.lds_version ≡ value v) × (is_version known in_common v ≡ true)
      × (from_unicode (not (alike (cut in_common v) lds17)) in_common v.to ≡ value c)
  unfolding read_ef_com from_version
  efcom_steps known c h =
      let a = first_value (element in_common e.from Tag.lds_version) (then_unicode known) c h in
      let v = a.0 in
      let b = checked_value (unless (is_version known in_common v) 11 e.from) _ c a.2 in
      (v, a.1, unless_kept (is_version known in_common v) 11 e.from b.0, b.1)

  steps_efcom : (known : Known) (c : Common) (v : Stretch) → element in_common e.from Tag.lds_version ≡ value v
      → is_version known in_common v ≡ true → from_unicode (not (alike (cut in_common v) lds17)) in_common v.to ≡ value c
      → read_ef_com known w e ≡ value c
  unfolding read_ef_com from_version
  steps_efcom known c v a b d =
      value_then (element in_common e.from Tag.lds_version) (then_unicode known) v (value c) a
      (value_checked (unless (is_version known in_common v) 11 e.from) _ (value c)
      (kept_unless (is_version known in_common v) 11 e.from b) d)

  efcom_grown : (c : Common) → read_ef_com former w e ≡ value c → read_ef_com both w e ≡ value c
  efcom_grown c h =
      let a = efcom_steps former c h in
      steps_efcom both c a.0 a.1 (version_grown in_common a.0 a.2) a.3

  efcom_former : (c : Common) → read_ef_com former w e ≡ value c → c.newer ≡ false
  efcom_former c h =
      let a = efcom_steps former c h in
      sym (unicode_newer _ in_common a.0.to c a.3) ∙ former_older in_common a.0 a.2

  -- where it does not say `0108`
  module _ (older : alike (cut in_common (stretch_at in_common e.from Tag.lds_version)) lds18 ≡ false) where
    there_older : (v : Stretch) → element in_common e.from Tag.lds_version ≡ value v → alike (cut in_common v) lds18 ≡ false
    there_older v h =
        ap (λ (x : Stretch). alike (cut in_common x) lds18) (sym (stretch_read in_common e.from Tag.lds_version v h)) ∙ older

    efcom_same : read_ef_com both w e ≡ read_ef_com former w e
    unfolding read_ef_com from_version
    efcom_same = then_same (element in_common e.from Tag.lds_version) (then_unicode both) (then_unicode former) (λ v h.
        ap (λ (b : Bool). checked (unless b 11 e.from)
        (from_unicode (not (alike (cut in_common v) lds17)) in_common v.to)) (version_same in_common v (there_older v h)))

-- ---- stage 4

module _ (s : List ℕ) (v : Stretch) where
  number_grown : object.is_version former s v ≡ true → object.is_version both s v ≡ true
  unfolding object.is_version
  number_grown = grown (has_octets 1 v) (eqb (get_or s v.from 0) 0) (eqb (get_or s v.from 0) 1)

  number_same : eqb (get_or s v.from 0) 1 ≡ false → object.is_version both s v ≡ object.is_version former s v
  unfolding object.is_version
  number_same = alone (has_octets 1 v) (eqb (get_or s v.from 0) 0) (eqb (get_or s v.from 0) 1)

  number_former : object.is_version former s v ≡ true → eqb (get_or s v.from 0) 1 ≡ false
  unfolding object.is_version
  number_former e = zero_there (get_or s v.from 0) (and_both (has_octets 1 v) (eqb (get_or s v.from 0) 0) e).1
    where
      zero_there : (n : ℕ) → eqb n 0 ≡ true → eqb n 1 ≡ false
      zero_there n h = ap (λ (x : ℕ). eqb x 1) (eqb-true n 0 h)

-- the version that is said is that of the object
algorithm_version : (newer : Bool) (s : List ℕ) (at : ℕ) (x : Said) → from_algorithm newer s at ≡ value x
    → (place : ℕ) × (version_at newer s place ≡ value x.version)
unfolding from_algorithm from_entry_list
algorithm_version newer s at x e =
    let a = first_value (element s at Tag.sequence) _ x e in
    let b = checked_value (unless (is_sha256 (cut s a.0)) 13 at) _ x a.2 in
    let c = first_value (element s a.0.to Tag.sequence) _ x b.1 in
    let d = first_value (entries (take c.0.to s) c.0.from) _ x c.2 in
    let f = checked_value (entries_check d.0 a.0.to) _ x d.2 in
    let g = first_value (version_at newer s c.0.to) _ x f.1 in
    (c.0.to, g.1 ∙ ap (λ (o : Said). value o.version) (same_value g.2))

-- version 0 is said by no strings
zero_said : (s : List ℕ) (at : ℕ) (y : Version) → version_at false s at ≡ value y → y ≡ Zero
unfolding version_at
zero_said s at y e = sym (same_value (checked_value _ (value Zero) y e).1)

-- version 1 does not go with `0107`
one_said : (w s : List ℕ) (at : ℕ) (c : Common) (y : Version) → version_at true s at ≡ value y → c.newer ≡ false
    → agrees w c y ≡ true → ⊥
unfolding version_at agrees
one_said w s at c y e old agree =
    let a = first_value (sequence_at s at) (λ (t : Strings). value (One t)) y e in
    let same : y ≡ One a.0 = sym (same_value a.2) in
    let told : agrees w c (One a.0) ≡ true = ap (agrees w c) (sym same) ∙ agree in
    false≢true (sym old ∙ (and_both c.newer _ told).0)

module _ (w : List ℕ) (o : Stretch) where
  abbrev in_object : List ℕ
  in_object = take o.to w

  abbrev number_at : Stretch → ℕ
  number_at v = get_or in_object v.from 0

  abbrev then_algorithm : Known → Stretch → Read Said
  then_algorithm known v =
      checked (unless (object.is_version known in_object v) 12 o.from) (from_algorithm (eqb (number_at v) 1) in_object v.to)

  object_steps : (known : Known) (x : Said) → read_object known w o ≡ value x
      → (v : Stretch) × (element in_object o.from Tag.integer ≡ value v) × (object.is_version known in_object v ≡ true)
      × (from_algorithm (eqb (number_at v) 1) in_object v.to ≡ value x)
  unfolding read_object object.from_version
  object_steps known x h =
      let a = first_value (element in_object o.from Tag.integer) (then_algorithm known) x h in
      let v = a.0 in
      let b = checked_value (unless (object.is_version known in_object v) 12 o.from) _ x a.2 in
      (v, a.1, unless_kept (object.is_version known in_object v) 12 o.from b.0, b.1)

  steps_object : (known : Known) (x : Said) (v : Stretch) → element in_object o.from Tag.integer ≡ value v
      → object.is_version known in_object v ≡ true → from_algorithm (eqb (number_at v) 1) in_object v.to ≡ value x
      → read_object known w o ≡ value x
  unfolding read_object object.from_version
  steps_object known x v a b d =
      value_then (element in_object o.from Tag.integer) (then_algorithm known) v (value x) a
      (value_checked (unless (object.is_version known in_object v) 12 o.from) _ (value x)
      (kept_unless (object.is_version known in_object v) 12 o.from b) d)

  object_grown : (x : Said) → read_object former w o ≡ value x → read_object both w o ≡ value x
  object_grown x h =
      let a = object_steps former x h in
      steps_object both x a.0 a.1 (number_grown in_object a.0 a.2) a.3

  object_former : (x : Said) → read_object former w o ≡ value x → x.version ≡ Zero
  object_former x h =
      let a = object_steps former x h in
      let b = algorithm_version _ in_object a.0.to x a.3 in
      zero_said in_object b.0 x.version
      (ap (λ (n : Bool). version_at n in_object b.0) (sym (number_former in_object a.0 a.2)) ∙ b.1)

  -- an object that agrees with an EF.COM that says `0107`
  object_older : (c : Common) (x : Said) → read_object both w o ≡ value x → c.newer ≡ false → agrees w c x.version ≡ true
      → read_object former w o ≡ value x
  object_older c x h old agree =
      let a = object_steps both x h in
      let v = a.0 in
      let b = algorithm_version _ in_object v.to x a.3 in
      let zero : eqb (number_at v) 1 ≡ false = go (eqb (number_at v) 1) b.0 b.1 in
      steps_object former x v a.1 (sym (number_same in_object v zero) ∙ a.2) a.3
    where
      go : (n : Bool) (place : ℕ) → version_at n in_object place ≡ value x.version → n ≡ false
      go false place e = refl
      go true place e = absurd (one_said w in_object place c x.version e old agree)

  -- where its version is not 1
  object_same : eqb (number_at (stretch_at in_object o.from Tag.integer)) 1 ≡ false
      → read_object both w o ≡ read_object former w o
  unfolding read_object object.from_version
  object_same other = then_same (element in_object o.from Tag.integer) (then_algorithm both) (then_algorithm former) (λ v h.
      ap (λ (b : Bool). checked (unless b 12 o.from) (from_algorithm (eqb (number_at v) 1) in_object v.to))
      (number_same in_object v
      (ap (λ (x : Stretch). eqb (number_at x) 1) (sym (stretch_read in_object o.from Tag.integer v h)) ∙ other)))

-- ---- the stages

-- what EF.COM says there, and the octet of the object's version
abbrev lds_said : List ℕ → Outer → List ℕ
lds_said w o = cut (take o.efcom.to w) (stretch_at (take o.efcom.to w) o.efcom.from Tag.lds_version)

abbrev number_said : List ℕ → Outer → ℕ
number_said w o = get_or (take o.object.to w) (stretch_at (take o.object.to w) o.object.from Tag.integer).from 0

former_agree : (w : List ℕ) (c : Common) (y : Version) → c.newer ≡ false → y ≡ Zero → agrees w c y ≡ true
unfolding agrees
former_agree w c y a b = rw (b, a)

module _ (w : List ℕ) (o : Outer) where
  abbrev behind : Common → Said → Read Record
  behind c x = and_then (files w o.object.to)
      (λ fs. checked (files_check w (cut w c.tags) [] x.entries fs) (group_one w fs))

  abbrev with_object : Known → Common → Read Record
  with_object known c = and_then (read_object known w o.object)
      (λ x. checked (versions_check w o.efcom.to c x.version) (behind c x))

  -- the reader of before has no test of the versions: it always passes
  untested : decided_formerly w o ≡ decided former w o
  unfolding decided_formerly decided versions_check
  untested =
      then_same (read_ef_com former w o.efcom) _ (with_object former) (λ c e.
      then_same (read_object former w o.object) (behind c) _ (λ x f.
      let agree = former_agree w c x.version (efcom_former w o.efcom c e) (object_former w o.object x f) in
      sym (value_checked (unless (agrees w c x.version) 19 o.efcom.to) (behind c x) (behind c x)
      (kept_unless (agrees w c x.version) 19 o.efcom.to agree) refl)))

  decided_grown : (r : Record) → decided former w o ≡ value r → decided both w o ≡ value r
  unfolding decided
  decided_grown r e =
      let a = first_value (read_ef_com former w o.efcom) (with_object former) r e in
      let c = a.0 in
      let b = first_value (read_object former w o.object) _ r a.2 in
      let x = b.0 in
      value_then (read_ef_com both w o.efcom) (with_object both) c (value r) (efcom_grown w o.efcom c a.1)
      (value_then (read_object both w o.object) _ x (value r) (object_grown w o.object x b.1) b.2)

  -- where EF.COM does not say `0108`
  module _ (older : alike (lds_said w o) lds18 ≡ false) where
    decided_older : (r : Record) → decided both w o ≡ value r → decided former w o ≡ value r
    unfolding decided versions_check
    decided_older r e =
        let a = first_value (read_ef_com both w o.efcom) (with_object both) r e in
        let c = a.0 in
        let read : read_ef_com former w o.efcom ≡ value c = sym (efcom_same w o.efcom older) ∙ a.1 in
        let b = first_value (read_object both w o.object) _ r a.2 in
        let x = b.0 in
        let v = checked_value (unless (agrees w c x.version) 19 o.efcom.to) _ r b.2 in
        let agree = unless_kept (agrees w c x.version) 19 o.efcom.to v.0 in
        value_then (read_ef_com former w o.efcom) (with_object former) c (value r) read
        (value_then (read_object former w o.object) _ x (value r)
        (object_older w o.object c x b.1 (efcom_former w o.efcom c read) agree) b.2)

    -- nor the object version 1
    decided_same : eqb (number_said w o) 1 ≡ false → decided both w o ≡ decided former w o
    unfolding decided
    decided_same other =
        ap (λ (m : Read Common). and_then m (with_object both)) (efcom_same w o.efcom older)
        ∙ ap (λ (m : Read Said). and_then (read_ef_com former w o.efcom) (λ c. and_then m
        (λ x. checked (versions_check w o.efcom.to c x.version) (behind c x)))) (object_same w o.object other)

-- ---- the whole

module _ (w : List ℕ) where
  formerly : and_then (walked w) (decided_formerly w) ≡ read_stages former w
  unfolding read_stages
  formerly = then_same (walked w) (decided_formerly w) (decided former w) (λ o e. untested w o)

  -- what was walked stands where the octets say
  walked_there : (o : Outer) → walked w ≡ value o → parts w ≡ o
  walked_there o e = under_value (outside_checks w) (parts w) o (sym (outer_rows w) ∙ e)

  stages_grown : (r : Record) → read_stages former w ≡ value r → read_stages both w ≡ value r
  unfolding read_stages
  stages_grown r e =
      let a = first_value (walked w) (decided former w) r e in
      value_then (walked w) (decided both w) a.0 (value r) a.1 (decided_grown w a.0 r a.2)

  -- "presentations accepted before keep their record"
  pub accepted_kept : (read_formerly w).outcome ≡ passed → read_presentation w ≡ read_formerly w
  unfolding read_formerly read_presentation
  accepted_kept e =
      let a = passed_value (and_then (walked w) (decided_formerly w)) e in
      let b = stages_grown a.0 (sym formerly ∙ a.1) in
      ap answer_by (b ∙ sym a.1)

  -- where EF.COM says `0107`
  module _ (older : lds_version w ≡ lds17) where
    not_newer : (o : Outer) → walked w ≡ value o → alike (lds_said w o) lds18 ≡ false
    unfolding lds_version alike
    not_newer o e = rw (← walked_there o e) (ap (λ (l : List ℕ). alike l lds18) older)

    stages_older : (r : Record) → read_stages both w ≡ value r → read_stages former w ≡ value r
    unfolding read_stages
    stages_older r e =
        let a = first_value (walked w) (decided both w) r e in
        value_then (walked w) (decided former w) a.0 (value r) a.1
        (decided_older w a.0 (not_newer a.0 a.1) r a.2)

    -- what is accepted now was accepted before, with the same record
    pub accepted_before : (read_presentation w).outcome ≡ passed → read_presentation w ≡ read_formerly w
    unfolding read_formerly read_presentation
    accepted_before e =
        let a = passed_value (read_stages both w) e in
        ap answer_by (a.1 ∙ sym (formerly ∙ stages_older a.0 a.1))

    -- "no `0107` one refused before is now accepted"
    pub refused_still : (n : Why) (p : ℕ) → (read_formerly w).outcome ≡ refused n p → (read_presentation w).outcome ≡ passed → ⊥
    refused_still n p e h =
        refused_not_passed (sym e ∙ sym (ap (λ (a : Answer). a.outcome) (accepted_before h)) ∙ h)

    -- with object version 0 the whole answer is the same
    pub older_same : object_version w ≡ 0 → read_presentation w ≡ read_formerly w
    unfolding read_formerly read_presentation read_stages object_version
    older_same zero =
        ap answer_by (then_same (walked w) (decided both w) (decided former w)
        (λ o e. decided_same w o (not_newer o e) (not_one o e)) ∙ sym formerly)
      where
        not_one : (o : Outer) → walked w ≡ value o → eqb (number_said w o) 1 ≡ false
        not_one o e = rw (← walked_there o e) (ap (λ (n : ℕ). eqb n 1) zero)

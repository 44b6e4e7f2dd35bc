-- DEMAND 2 for presentations: bytes are accepted exactly when they are the joined encodings of an EF.COM, a security object and
-- group files that belong together, and the record is that of the text in group 1.
use Prim.Native.Nat.{ℕ, ◌≤◌}
use mathlib.Core.Path.{◌≡◌, refl, ap, sym, ◌∙◌, subst}
use mathlib.Core.Logic.{◌↔◌}
use mathlib.Core.Bool.{true}
use mathlib.Core.List.{List, [], ◌++◌}
use lib.ListN.{length, drop}
use Rattle.refusal.specs.Numbers.{Why}
use Rattle.refusal.specs.Outcome.{passed, refused}
use Rattle.zone.specs.declared.form.Source.TheVariants.{GroupOne}
use Rattle.zone.specs.declared.record.Record.{Record}
use Rattle.zone.specs.Record.{blank}
use Rattle.text.specs.Read.{Answer, read_text}
use Rattle.tlv.specs.Read.{Read, value, refusal, and_then, checked}
use Rattle.tlv.specs.Element.{tlv}
use Rattle.outer.specs.declared.File.{File}
use Rattle.outer.specs.declared.Outer.{Outer}
use Rattle.tlv.specs.Cut.{cut}
use Rattle.tlv.specs.Versions.{both}
use Rattle.outer.specs.Outer.{files, walked}
use Rattle.efcom.specs.EfCom.{read_ef_com}
use Rattle.efcom.specs.declared.Common.{Common}
use Rattle.object.specs.Object.{Said, read_object}
use Rattle.chip.specs.Versions.{agrees, versions_check}
use Rattle.chip.specs.Files.{files_check}
use Rattle.group_text.specs.Text.{answer_by}
use Rattle.chip.specs.Presentation.{group_one, decided, read_stages, read_presentation}
use Rattle.zone.specs.Octets.{AreOctets}
use Rattle.presentation_theorems.specs.Presented.{Signed, Lent, Contents, lds_of, common_inside, common_of, object_inside}
use Rattle.presentation_theorems.specs.Presented.{object_of}
use Rattle.presentation_theorems.specs.Presented.{all_lent, octets_of, IsIn, is_once, numbers, tags_of, FileKept, Presented}
use Rattle.refusal.proofs.Outcomes.{refused_not_passed, unless_kept, kept_unless}
use Rattle.text_theorems.proofs.Acceptance.{accepted_exactly}
use Rattle.presentation_theorems.proofs.NoneTwice.{none_once}
use Rattle.presentation_theorems.proofs.LentOnce.{lent_once}
use Rattle.tlv.proofs.Joined.{first_value, value_then, one_value, checked_value, value_checked}
use Rattle.presentation_theorems.proofs.EfCom.{common_read, read_common}
use Rattle.presentation_theorems.proofs.ObjectEntry.{signed_in}
use Rattle.presentation_theorems.proofs.SecurityObject.{object_read, read_object_lem}
use Rattle.presentation_theorems.proofs.VersionsAgree.{agreed, agreeing}
use Rattle.presentation_theorems.proofs.GroupFiles.{lent_in, EachGroup}
use Rattle.presentation_theorems.proofs.FilesSigned.{EachBacked, files_backed, backed_files}
use Rattle.presentation_theorems.proofs.GroupOne.{one_read, read_one}
use Rattle.presentation_theorems.proofs.OuterWalk.{Walked, walked_parts, parts_walked}

-- ---- the stages in order

module _ (w : List ℕ) (o : Outer) where
  abbrev pub from_files : Common → Said → List File → Read Record
  from_files c x fs = checked (files_check w (cut w c.tags) [] x.entries fs) (group_one w fs)

  abbrev pub from_versions : Common → Said → Read Record
  from_versions c x = and_then (files w o.object.to) (from_files c x)

  abbrev pub from_object : Common → Said → Read Record
  from_object c x = checked (versions_check w o.efcom.to c x.version) (from_versions c x)

  abbrev pub from_common : Common → Read Record
  from_common c = and_then (read_object both w o.object) (from_object c)

file_kept : (tags : List ℕ) (xs : List Signed) (ls : List Lent) → EachGroup ls → EachBacked tags xs ls → (l : Lent) → IsIn l ls
    → FileKept tags xs l
unfolding EachGroup EachBacked
file_kept tags xs ls g b l m = record { of_group = g l m; listed = (b l m).is_listed; signed = (b l m).is_signed }

module _ (w : List ℕ) (small : AreOctets w) (r : Record) where
  -- what was decided, of what was walked
  decided_read : (o : Outer) (fs : List File) → Walked w (cut w o.efcom) (cut w o.object) o fs → length w ≤ 65535
      → w ≡ tlv 0x60 (cut w o.efcom) ++ (tlv 0x30 (cut w o.object) ++ all_lent (lent_in w fs)) → decided both w o ≡ value r
      → (p : Contents) × (w ≡ octets_of p) × Presented p × ((read_text GroupOne p.text).kept ≡ r)
  unfolding decided versions_check octets_of common_of object_of
  decided_read o fs h most there e =
      let d = cut w o.object in
      let a = first_value (read_ef_com both w o.efcom) (from_common w o) r e in
      let c = a.0 in
      let b = first_value (read_object both w o.object) (from_object w o c) r a.2 in
      let x = b.0 in
      let es = x.entries in
      let v = checked_value (versions_check w o.efcom.to c x.version) (from_versions w o c x) r b.2 in
      let f = first_value (files w o.object.to) (from_files w o c x) r v.1 in
      let same : fs ≡ f.0 = one_value (files w o.object.to) fs f.0 h.files_walked f.1 in
      let last : from_files w o c x fs
      ≡ value r = subst (λ (q : List File). from_files w o c x q ≡ value r) (sym same) f.2 in
      let tags = cut w c.tags in
      let y = checked_value (files_check w tags [] es fs) (group_one w fs) r last in
      let l = common_read w 0 0x60 (cut w o.efcom) (drop o.efcom.to w) o.efcom h.common_stands small c a.1 in
      let s = object_read w o.efcom.to 0x30 d (drop o.object.to w) o.object h.object_stands small x b.1 in
      let agree = unless_kept (agrees w c x.version) 19 o.efcom.to v.0 in
      let object : d ≡ object_inside c.newer s.followed (signed_in w es) (lds_of c.newer) l.digits =
      s.inside_there
      ∙ agreed w c l.digits l.unicode_there s.newer s.followed (signed_in w es) s.lds s.unicode x.version
      agree s.version_there in
      let k = files_backed w tags es [] fs h.files_stand y.0 in
      let t = one_read w fs h.files_stand small r y.1 in
      let p : Contents = record {
        newer = c.newer;
        tags = tags;
        digits = l.digits;
        followed = s.followed;
        entries = signed_in w es;
        lent =
            lent_in w fs;
        text = t.0;
      } in
      let whole : w ≡ octets_of p =
      there
      ∙ ap (λ (q : List ℕ). tlv 0x60 q ++ (tlv 0x30 d ++ all_lent (lent_in w fs))) l.common_there
      ∙ ap (λ (q : List ℕ). tlv 0x60 (common_inside c.newer l.digits tags) ++ (tlv 0x30 q ++ all_lent (lent_in w fs)))
      object in (
        p,
        whole,
        record {
          size = subst (λ (q : List ℕ). length q ≤ 65535) whole most;
          digits_six = l.digits_kept.six_digits;
          digits_only = l.digits_kept.only_digits;
          tags_known = l.tags_kept.known_tags;
          tags_once = l.tags_kept.once_tags;
          entry_kept = s.entries_kept.each_kept;
          numbers_once = s.entries_kept.once_kept;
          entries_least = s.entries_kept.least_kept;
          file_kept = file_kept tags (signed_in w es) (lent_in w fs) h.files_group k.1;
          lent_once = lent_once (lent_in w fs) k.0;
          group_one = t.1;
          text_kept = (accepted_exactly GroupOne t.0).0 t.2;
        },
        t.3,
      )

  stages_read : read_stages both w ≡ value r
      → (p : Contents) × (w ≡ octets_of p) × Presented p × ((read_text GroupOne p.text).kept ≡ r)
  unfolding read_stages
  stages_read e =
      let a = first_value (walked w) (λ (o : Outer). decided both w o) r e in
      let b = walked_parts w small a.0 a.1 in
      decided_read a.0 b.0 b.2 b.1 b.3 a.2

-- ---- and back

each_group : (p : Contents) → Presented p → EachGroup p.lent
unfolding EachGroup
each_group p k l m = (k.file_kept l m).of_group

each_backed : (p : Contents) → Presented p → EachBacked p.tags p.entries p.lent
unfolding EachBacked
each_backed p k l m = record { is_listed = (k.file_kept l m).listed; is_signed = (k.file_kept l m).signed }

read_stages_lem : (p : Contents) → Presented p → read_stages both (octets_of p) ≡ value (read_text GroupOne p.text).kept
unfolding read_stages decided versions_check octets_of common_of object_of
read_stages_lem p k =
    let w = octets_of p in
    let most = k.size in
    let c = common_inside p.newer p.digits p.tags in
    let d = object_inside p.newer p.followed p.entries (lds_of p.newer) p.digits in
    let r = (read_text GroupOne p.text).kept in
    let a = parts_walked w most c d p.lent (each_group p k) refl in
    let o = a.0 in
    let fs = a.1 in
    let h = a.4 in
    let lent : lent_in w fs ≡ p.lent = a.3 in
    let l = read_common w 0 0x60 c (drop o.efcom.to w) o.efcom h.common_stands most p.newer p.digits p.tags
    refl
    (record { six_digits = k.digits_six; only_digits = k.digits_only })
    (record { known_tags = k.tags_known; once_tags = k.tags_once }) in
    let x = l.0 in
    let tags = cut w x.tags in
    let s = read_object_lem w o.efcom.to 0x30 d (drop o.object.to w) o.object h.object_stands most p.newer
    p.followed p.entries (lds_of p.newer) p.digits refl
    (record { each_kept = k.entry_kept; once_kept = k.numbers_once; least_kept = k.entries_least }) in
    let y = s.0 in
    let es = y.entries in
    let agree = kept_unless (agrees w x y.version) 19 o.efcom.to
    (agreeing w x p.digits l.3 p.newer y.version l.2 s.4) in
    let once = subst (λ (q : List Signed). is_once (numbers q) ≡ true) (sym s.2) k.numbers_once in
    let tags_once = subst (λ (q : List Lent). is_once (tags_of q) ≡ true) (sym lent) k.lent_once in
    let backed = subst (λ (q : List Lent). EachBacked tags (signed_in w es) q) (sym lent)
    (subst (λ (q : List Signed). EachBacked tags q p.lent) (sym s.2)
    (subst (λ (q : List ℕ). EachBacked q p.entries p.lent) (sym l.4) (each_backed p k))) in
    let check = backed_files w tags es (length w) s.3 once [] fs h.files_stand
    (none_once (tags_of (lent_in w fs)) tags_once) backed in
    let one = subst (λ (q : List Lent). IsIn (record { tag = 0x61; content = tlv 0x5F1F p.text }) q) (sym lent)
    k.group_one in
    let text = read_one w fs h.files_stand most p.text tags_once one ((accepted_exactly GroupOne p.text).1
    k.text_kept) in
    value_then (walked w) (λ (q : Outer). decided both w q) o (value r) a.2
    (value_then (read_ef_com both w o.efcom) (from_common w o) x (value r) l.1
    (value_then (read_object both w o.object) (from_object w o x) y (value r) s.1
    (value_checked (versions_check w o.efcom.to x y.version) (from_versions w o x y) (value r) agree
    (value_then (files w o.object.to) (from_files w o x y) fs (value r) h.files_walked
    (value_checked (files_check w tags [] es fs) (group_one w fs) (value r) check text)))))

-- ---- what is answered

pub passed_value : (m : Read Record) → (answer_by m).outcome ≡ passed → (r : Record) × (m ≡ value r) × ((answer_by m).kept ≡ r)
unfolding answer_by
passed_value (value r) e = (r, refl, refl)
passed_value (refusal n p) e = absurd (refused_not_passed e)

-- every refusal gives the blank record
pub presentation_blank : (w : List ℕ) (n : Why) (p : ℕ) → (read_presentation w).outcome ≡ refused n p
    → (read_presentation w).kept ≡ blank
unfolding read_presentation answer_by
presentation_blank w n p e = go (read_stages both w) e
  where
    go : (m : Read Record) → (answer_by m).outcome ≡ refused n p → (answer_by m).kept ≡ blank
    go (value r) h = absurd (refused_not_passed (sym h))
    go (refusal a b) h = refl

-- the answer to the bytes of contents that belong together is the answer to their text
pub presented_text : (p : Contents) → Presented p → read_presentation (octets_of p) ≡ read_text GroupOne p.text
unfolding read_presentation answer_by
presented_text p k =
    let good : (read_text GroupOne p.text).outcome ≡ passed = (accepted_exactly GroupOne p.text).1 k.text_kept in
    ap answer_by (read_stages_lem p k) ∙ (λ i. record { outcome = sym good i; kept = (read_text GroupOne p.text).kept })

-- accepted bytes are those of contents that belong together, and their record is that of the text
pub presented_contents : (w : List ℕ) → AreOctets w → (read_presentation w).outcome ≡ passed
    → (p : Contents) × (w ≡ octets_of p) × Presented p × ((read_presentation w).kept ≡ (read_text GroupOne p.text).kept)
unfolding read_presentation
presented_contents w small e =
    let a = passed_value (read_stages both w) e in
    let b = stages_read w small a.0 a.1 in
    (b.0, b.1, b.2, a.2 ∙ sym b.3)

-- bytes are accepted exactly when they are those of contents that belong together
pub presented_exactly : (w : List ℕ) → AreOctets w
    → ((read_presentation w).outcome ≡ passed) ↔ ((p : Contents) × (w ≡ octets_of p) × Presented p)
presented_exactly w small = (
  λ e. let a = presented_contents w small e in (a.0, a.1, a.2),
  λ h. ap (λ (v : List ℕ). (read_presentation v).outcome) h.1 ∙ ap (λ (x : Answer). x.outcome) (presented_text h.0 h.2)
      ∙ (accepted_exactly GroupOne h.0.text).1 h.2.text_kept,
)

-- REQUEST 2026-09: for every list of octets today's reader answers what it answers with the two tests put back: behind the tests
-- before it each always passes.
use Prim.Native.Nat.{ℕ}
use mathlib.Core.Path.{◌≡◌, ap, sym}
use mathlib.Core.List.{List, []}
use native.Mathlib.Omega.{arith}
use borrow.Author.Tests.{le-leb}
use lib.Dec.{eqb, leb}
use lib.ListN.{length, take, get_or}
use Rattle.refusal.specs.Outcome.{unless}
use Rattle.refusal.proofs.Outcomes.{kept_unless, both_passed, or_else_idle}
use Rattle.tlv.specs.declared.Stretch.{Stretch}
use Rattle.tlv.specs.Read.{value, and_then, checked}
use Rattle.tlv.specs.Element.{element}
use Rattle.tlv.specs.Cut.{cut}
use Rattle.tlv.specs.Tags as Tag
use Rattle.tlv.specs.Versions.{both}
use Rattle.tlv.proofs.Joined.{then_same}
use Rattle.efcom.specs.EfCom.{known_from, once_from, tags_check, from_tag_list, from_unicode, from_version, read_ef_com}
use Rattle.efcom.proofs.FifteenTags.{fifteen_tags}
use Rattle.object.specs.Object.{GroupHash, entries, numbers_once, entries_check, version_at, from_entry_list, from_algorithm}
use Rattle.object.specs.Object.{read_object}
use Rattle.object.specs.Object as object
use Rattle.object.proofs.SixteenEntries.{sixteen_read}
use Rattle.chip.specs.Presentation.{decided, read_stages, read_presentation}
use Rattle.history.specs.TwoTests as tested

-- ---- stage 3

tags_same : (s : List ℕ) (v : Stretch) (at : ℕ) → tested.tags_check s v at ≡ tags_check s v
unfolding tested.tags_check tags_check
tags_same s v at =
    let tags = cut s v in
    or_else_idle (tags_check s v) _ (λ e.
    let both = both_passed (known_from v.from tags) (once_from v.from [] tags) e in
    kept_unless _ 11 at (le-leb (length tags) _ (omega (arith, fifteen_tags v.from v.from tags both.0 both.1))))

pub efcom_same : (w : List ℕ) (efcom : Stretch) → read_ef_com both w efcom ≡ tested.read_ef_com w efcom
unfolding read_ef_com from_version from_unicode from_tag_list tested.read_ef_com
efcom_same w efcom = simp tags_same

-- ---- stage 4

-- of entries that were read
entries_same : (s : List ℕ) (from at : ℕ) (es : List GroupHash) → entries s from ≡ value es
    → tested.entries_check es at ≡ entries_check es at
unfolding tested.entries_check entries_check
entries_same s from at es read =
    or_else_idle (entries_check es at) _ (λ e.
    let once = (both_passed (numbers_once [] es) (unless (leb 2 (length es)) 12 at) e).0 in
    kept_unless _ 12 at (le-leb (length es) _ (omega (arith, sixteen_read s from es read once))))

pub object_same : (w : List ℕ) (o : Stretch) → read_object both w o ≡ tested.read_object w o
unfolding read_object object.from_version from_algorithm from_entry_list tested.read_object
object_same w o =
    let s = take o.to w in
    then_same (element s o.from Tag.integer) _ _ (λ version a.
    ap (checked _) (then_same (element s version.to Tag.sequence) _ _ (λ algorithm b.
    ap (checked _) (then_same (element s algorithm.to Tag.sequence) _ _ (λ list c.
    then_same (entries (take list.to s) list.from) _ _ (λ es read.
    ap (λ x. checked x (and_then (version_at (eqb (get_or s version.from 0) 1) s list.to)
    (λ y. value (record { entries = es; version = y }))))
    (sym (entries_same (take list.to s) list.from algorithm.to es read))))))))

-- ---- all stages

pub presentation_same : (w : List ℕ) → read_presentation w ≡ tested.read_presentation w
unfolding read_presentation read_stages decided tested.read_presentation
presentation_same w = simp (efcom_same, object_same)

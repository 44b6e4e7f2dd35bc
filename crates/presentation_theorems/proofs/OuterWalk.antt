-- DEMAND 2, stages 1 and 2: bytes are walked exactly when they are at most 65,535 and an element 60, an element 30 and files with
-- group tags, joined.
use Prim.Native.Nat.{ℕ, suc, ◌≤◌}
use mathlib.Core.Path.{◌≡◌, refl, sym, subst}
use mathlib.Core.List.{List, ◌++◌}
use native.Mathlib.Omega.{arith}
use borrow.Author.Tests.{leb-true, le-leb}
use lib.Dec.{leb}
use lib.ListN.{length, drop}
use Rattle.refusal.specs.Outcome.{passed}
use Rattle.tlv.specs.declared.Stretch.{Stretch}
use Rattle.tlv.specs.Read.{Read, value, and_then}
use Rattle.tlv.specs.Element.{tlv, element}
use Rattle.tlv.proofs.Joined.{same_value, first_value, value_then, checked_value, value_checked}
use Rattle.tlv.proofs.Encoded.{Stands}
use Rattle.outer.specs.declared.File.{File}
use Rattle.outer.specs.declared.Outer.{Outer}
use Rattle.tlv.specs.Cut.{cut}
use Rattle.outer.specs.Outer.{size_check, files, outer, walked}
use Rattle.zone.specs.Octets.{AreOctets}
use Rattle.presentation_theorems.specs.Presented.{Lent, all_lent}
use Rattle.refusal.proofs.Outcomes.{unless_kept, kept_unless}
use Rattle.tlv.proofs.Standing.{element_read, place_behind, followed_by}
use Rattle.presentation_theorems.proofs.Elements.{read_element}
use Rattle.presentation_theorems.proofs.GroupFiles.{lent_in, EachStands, EachGroup, files_read, read_files}

-- the parts of walked bytes: what EF.COM and the object hold, and the files
pub record Walked (w c d : List ℕ) (o : Outer) (fs : List File) : Type 0 where
  pub common_stands : Stands w 0 0x60 c (drop o.efcom.to w) o.efcom
  pub object_stands : Stands w o.efcom.to 0x30 d (drop o.object.to w) o.object
  pub files_walked : files w o.object.to ≡ value fs
  pub files_group : EachGroup (lent_in w fs)
  pub files_stand : EachStands w fs

size_kept : (w : List ℕ) → size_check w ≡ passed → length w ≤ 65535
unfolding size_check
size_kept w e = leb-true (length w) 65535 (unless_kept (leb (length w) 65535) 1 0 e)

kept_size : (w : List ℕ) → length w ≤ 65535 → size_check w ≡ passed
unfolding size_check
kept_size w h = kept_unless (leb (length w) 65535) 1 0 (le-leb (length w) 65535 h)

module _ (w : List ℕ) where
  abbrev walked_so : Stretch → Stretch → Outer
  walked_so c d = record { efcom = c; object = d }

  abbrev then_files : Stretch → Stretch → Read Outer
  then_files c d = and_then (files w d.to) (λ (all : List File). value (walked_so c d))

  abbrev then_object : Stretch → Read Outer
  then_object c = and_then (element w c.to 0x30) (λ (d : Stretch). then_files c d)

  pub walked_parts : AreOctets w → (o : Outer) → walked w ≡ value o
      → (fs : List File) × (length w ≤ 65535) × Walked w (cut w o.efcom) (cut w o.object) o fs
      × (w ≡ tlv 0x60 (cut w o.efcom) ++ (tlv 0x30 (cut w o.object) ++ all_lent (lent_in w fs)))
  unfolding walked outer files
  walked_parts small o e =
      let z = checked_value (size_check w) (outer w) o e in
      let a = first_value (element w 0 0x60) then_object o z.1 in
      let c = a.0 in
      let b = first_value (element w c.to 0x30) (then_files c) o a.2 in
      let d = b.0 in
      let x = first_value (files w d.to) (λ (all : List File). value (walked_so c d)) o b.2 in
      let fs = x.0 in
      let h = read_element w 0 0x60 small c a.1 in
      let k = read_element w c.to 0x30 small d b.1 in
      let places = place_behind w c.to 0x30 (cut w d) (drop d.to w) d k in
      let r = files_read (suc (length w)) w d.to fs small places.2 x.1 in
      let there : w ≡ tlv 0x60 (cut w c) ++ (tlv 0x30 (cut w d) ++ all_lent (lent_in w fs)) =
      followed_by 0x60 w (cut w c) (cut w c) (drop c.to w) (tlv 0x30 (cut w d) ++ all_lent (lent_in w fs)) h.octets_there refl
      (followed_by 0x30 (drop c.to w) (cut w d) (cut w d) (drop d.to w) (all_lent (lent_in w fs)) k.octets_there refl
      r.files_there) in
      let one : Walked w (cut w c) (cut w d) (record { efcom = c; object = d }) fs = record {
        common_stands = h;
        object_stands = k;
        files_walked = x.1;
        files_group = r.files_group;
        files_stand = r.files_stand;
      } in (
        fs,
        size_kept w z.0,
        subst (λ (q : Outer). Walked w (cut w q.efcom) (cut w q.object) q fs) (same_value x.2) one,
        subst (λ (q : Outer). w ≡ tlv 0x60 (cut w q.efcom) ++ (tlv 0x30 (cut w q.object) ++ all_lent (lent_in w fs)))
            (same_value x.2) there,
      )

  pub parts_walked : length w ≤ 65535 → (c d : List ℕ) (ls : List Lent) → EachGroup ls
      → w ≡ tlv 0x60 c ++ (tlv 0x30 d ++ all_lent ls)
      → (o : Outer) × (fs : List File) × (walked w ≡ value o) × (lent_in w fs ≡ ls) × Walked w c d o fs
  unfolding walked outer files
  parts_walked most c d ls g e =
      let rest = tlv 0x30 d ++ all_lent ls in
      let a = element_read w 0 0x60 most c rest e in
      let u = a.0 in
      let b = element_read w u.to 0x30 most d (all_lent ls) a.2.rest_there in
      let v = b.0 in
      let places = place_behind w u.to 0x30 d (all_lent ls) v b.2 in
      let x = read_files (suc (length w)) w v.to ls most places.2 (omega arith) g b.2.rest_there in
      let o : Outer = record { efcom = u; object = v } in (
        o,
        x.0,
        value_checked (size_check w) (outer w) (value o) (kept_size w most)
            (value_then (element w 0 0x60) then_object u (value o) a.1
            (value_then (element w u.to 0x30) (then_files u) v (value o) b.1
            (value_then (files w v.to) (λ (all : List File). value (walked_so u v)) x.0 (value o) x.1 refl))),
        x.2,
        record {
          common_stands = subst (λ (l : List ℕ). Stands w 0 0x60 c l u) (sym a.2.rest_there) a.2;
          object_stands = subst (λ (l : List ℕ). Stands w u.to 0x30 d l v) (sym b.2.rest_there) b.2;
          files_walked = x.1;
          files_group = subst EachGroup (sym x.2) g;
          files_stand = x.3;
        },
      )

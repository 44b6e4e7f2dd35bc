-- DEMAND 2, stage 4, the list of entries: read exactly where the joined encodings of kept entries stand, no number twice, two of
-- them at least.
use Prim.Native.Nat.{ℕ, zero, suc, ◌+◌, ◌-◌, ◌≤◌, ◌<◌}
use mathlib.Core.Path.{◌≡◌, refl, ap, sym, ◌∙◌, subst}
use mathlib.Core.Bool.{Bool, true, false, cond, not, ◌&&◌}
use mathlib.Core.List.{List, [], ◌∷◌, ◌++◌}
use mathlib.Core.Logic.{inl, inr}
use native.Mathlib.Omega.{arith}
use borrow.Author.Tests.{leb-true, le-leb, lt-leb, lt-ltb, not-true}
use lib.Dec.{leb}
use lib.ListN.{length, take, drop, length-append, length-drop, drop_of_length-le}
use lib.Seq.{length-take-le}
use Rattle.lent.proofs.Bools.{and_both, both_and, not_so}
use Rattle.refusal.specs.Numbers.{by}
use Rattle.refusal.specs.Outcome.{passed, refused, unless}
use Rattle.tlv.specs.declared.Stretch.{Stretch}
use Rattle.tlv.specs.Read.{Read, value, and_then, checked}
use Rattle.tlv.specs.Element.{tlv, element}
use Rattle.tlv.proofs.Joined.{never_value, same_value, first_value, value_then, checked_value, value_checked}
use Rattle.tlv.proofs.Encoded.{inside, length-tlv, some_head}
use Rattle.tlv.specs.Cut.{cut}
use Rattle.lent.specs.Octets.{stands}
use Rattle.object.specs.declared.strings.Version.{Version}
use Rattle.object.specs.Object.{GroupHash, Said, entry_at, entries_from, entries, numbers_once, entries_check, version_at}
use Rattle.object.specs.Object.{from_entry_list}
use Rattle.zone.specs.Octets.{AreOctets}
use Rattle.presentation_theorems.specs.Presented.{Signed, signed_of, all_signed, IsIn, is_once, numbers, EntryKept}
use Rattle.refusal.proofs.Outcomes.{refused_not_passed, both_passed, unless_kept}
use Rattle.presentation_theorems.proofs.NoneTwice.{once_after, once_none, none_once}
use Rattle.tlv.proofs.Standing.{element_read, place_behind, followed_by}
use Rattle.presentation_theorems.proofs.Elements.{octets_before, take_most, read_element}
use Rattle.presentation_theorems.proofs.ObjectEntry.{signed_at, signed_in, held_in, signed_before, held_more, EntryRead}
use Rattle.presentation_theorems.proofs.ObjectEntry.{entry_read, read_entry_lem}

-- ---- entries, one behind the other

unfoldable EachKept : List Signed → Type 0
EachKept xs = (x : Signed) → IsIn x xs → EntryKept x

one_kept : (y : Signed) (ys : List Signed) → EntryKept y → EachKept ys → EachKept (y ∷ ys)
unfolding EachKept IsIn
one_kept y ys k rest x (inl e) = subst EntryKept (sym e) k
one_kept y ys k rest x (inr m) = rest x m

record EntriesRead (s : List ℕ) (at : ℕ) (es : List GroupHash) : Type 0 where
  entries_there : drop at s ≡ all_signed (signed_in s es)
  entries_kept : EachKept (signed_in s es)
  entries_held : held_in (length s) es ≡ true

no_entries : (s : List ℕ) (at : ℕ) → length s ≤ at → EntriesRead s at []
unfolding all_signed signed_in held_in EachKept IsIn
no_entries s at h = record { entries_there = drop_of_length-le s h; entries_kept = λ x k. absurd k; entries_held = refl }

held_one : (n : ℕ) (e : GroupHash) (es : List GroupHash) → 0 < e.digest → e.digest + 32 ≤ n → held_in n es ≡ true
    → held_in n (e ∷ es) ≡ true
unfolding held_in
held_one n e es a b h = both_and (both_and (lt-ltb 0 e.digest a) (le-leb (e.digest + 32) n b)) h

more_entries : (s : List ℕ) (at : ℕ) (e : GroupHash) (es : List GroupHash) → EntryRead s at e → EntriesRead s e.end es
    → EntriesRead s at (e ∷ es)
unfolding all_signed signed_in
more_entries s at e es r rest = record {
  entries_there = r.entry_there ∙ ap (λ (l : List ℕ). signed_of (signed_at s e) ++ l) rest.entries_there;
  entries_kept = one_kept (signed_at s e) (signed_in s es) r.entry_kept rest.entries_kept;
  entries_held = held_one (length s) e es r.entry_digest r.entry_within rest.entries_held;
}

entries_read : (more : ℕ) (s : List ℕ) (at : ℕ) (es : List GroupHash) → AreOctets s → at ≤ length s
    → entries_from more s at ≡ value es
    → EntriesRead s at es
unfolding entries_from
entries_read zero s at es small h e = absurd (never_value _ at es e)
entries_read (suc more) s at es small h e =
    go (leb (length s) at) refl e (λ (n : ℕ) (fs : List GroupHash) i f. entries_read more s n fs small i f)
  where
    onwards : GroupHash → Read (List GroupHash)
    onwards x = and_then (entries_from more s x.end) (λ (rest : List GroupHash). value (x ∷ rest))

    go : (b : Bool) → leb (length s) at ≡ b → cond b (value []) (and_then (entry_at s at) onwards) ≡ value es
        → ((n : ℕ) (fs : List GroupHash) → n ≤ length s → entries_from more s n ≡ value fs → EntriesRead s n fs)
        → EntriesRead s at es
    go true p f rest = subst (EntriesRead s at) (same_value f) (no_entries s at (leb-true (length s) at p))
    go false p f rest =
        let a = first_value (entry_at s at) onwards es f in
        let x = a.0 in
        let r = entry_read s at small x a.1 in
        let b = first_value (entries_from more s x.end) (λ (q : List GroupHash). value (x ∷ q)) es a.2 in
        let last = rest x.end b.0 r.entry_ends b.1 in
        subst (EntriesRead s at) (same_value b.2) (more_entries s at x b.0 r last)

-- no entry is empty
some_signed : (x : Signed) → 1 ≤ length (signed_of x)
unfolding signed_of
some_signed x =
    let c = tlv 0x02 (x.number ∷ []) ++ tlv 0x04 x.digest in
    omega (arith, length-tlv 0x30 c, some_head 0x30 (length c))

read_entries : (more : ℕ) (s : List ℕ) (at : ℕ) (xs : List Signed) → length s ≤ 65535 → at ≤ length s → length s < at + more
    → EachKept xs
    → drop at s ≡ all_signed xs
    → (es : List GroupHash) × (entries_from more s at ≡ value es) × (signed_in s es ≡ xs) × (held_in (length s) es ≡ true)
unfolding entries_from all_signed signed_in held_in EachKept IsIn
read_entries zero s at xs most h k kept e = absurd (omega arith)
read_entries (suc more) s at [] most h k kept e =
    let none : length s - at ≡ 0 = sym (length-drop at s) ∙ ap length e in
    ([], rw (le-leb (length s) at (omega arith)), refl, refl)
read_entries (suc more) s at (x ∷ xs) most h k kept e =
    let some : length s - at ≡ length (signed_of x) + length (all_signed xs) = sym (length-drop at s) ∙ ap length e
    ∙ length-append (signed_of x) (all_signed xs) in
    let a = read_entry_lem s at most x (all_signed xs) (kept x (inl refl)) e in
    let y = a.0 in
    let b = read_entries more s y.end xs most a.5 (omega (arith, a.4)) (λ z m. kept z (inr m)) a.3 in
    let same : signed_at s y ≡ x = a.2 in
    let rest : signed_in s b.0 ≡ xs = b.2 in
    let over : leb (length s) at ≡ false = lt-leb (length s) at (omega (arith, some_signed x)) in (
      y ∷ b.0,
      rw over
          (value_then (entry_at s at) (λ (z : GroupHash). and_then (entries_from more s z.end)
          (λ (q : List GroupHash). value (z ∷ q))) y (value (y ∷ b.0)) a.1
          (value_then (entries_from more s y.end) (λ (q : List GroupHash). value (y ∷ q)) b.0 (value (y ∷ b.0))
          b.1 refl)),
      cc,
      held_one (length s) y b.0 a.6 a.7 b.3,
    )

-- ---- their numbers and how many they are

once_numbers : (s : List ℕ) (before : List ℕ) (es : List GroupHash) → numbers_once before es ≡ passed
    → once_after before (numbers (signed_in s es)) ≡ true
unfolding numbers_once once_after numbers signed_in signed_at
once_numbers s before [] e = refl
once_numbers s before (x ∷ es) e = go (stands x.group before) refl e (once_numbers s (x.group ∷ before) es)
  where
    go : (b : Bool) → stands x.group before ≡ b
        → cond b (refused (by 12) x.place) (numbers_once (x.group ∷ before) es) ≡ passed
        → (numbers_once (x.group ∷ before) es ≡ passed → once_after (x.group ∷ before) (numbers (signed_in s es)) ≡ true)
        → not (stands x.group before) && once_after (x.group ∷ before) (numbers (signed_in s es)) ≡ true
    go true f h rest = absurd (refused_not_passed h)
    go false f h rest = both_and (not_so (stands x.group before) f) (rest h)

pub numbers_once_lem : (s : List ℕ) (before : List ℕ) (es : List GroupHash) → once_after before (numbers (signed_in s es)) ≡ true
    → numbers_once before es ≡ passed
unfolding numbers_once once_after numbers signed_in signed_at
numbers_once_lem s before [] e = refl
numbers_once_lem s before (x ∷ es) e =
    let both = and_both (not (stands x.group before)) (once_after (x.group ∷ before) (numbers (signed_in s es))) e in
    rw (not-true (stands x.group before) both.0) (numbers_once_lem s (x.group ∷ before) es both.1)

counted : (s : List ℕ) (es : List GroupHash) → length es ≡ length (signed_in s es)
unfolding signed_in
counted s [] = refl
counted s (e ∷ es) = ap suc (counted s es)

pub record SignedKept (xs : List Signed) : Type 0 where
  pub each_kept : (x : Signed) → IsIn x xs → EntryKept x
  pub once_kept : is_once (numbers xs) ≡ true
  pub least_kept : 2 ≤ length xs

module _ (s : List ℕ) (es : List GroupHash) (at : ℕ) where
  check_kept : EachKept (signed_in s es) → entries_check es at ≡ passed → SignedKept (signed_in s es)
  unfolding entries_check EachKept
  check_kept each e =
      let a = both_passed (numbers_once [] es) (unless (leb 2 (length es)) 12 at) e in
      let same = counted s es in
      record {
        each_kept = each;
        once_kept = once_none (numbers (signed_in s es)) (once_numbers s [] es a.0);
        least_kept = omega (arith, leb-true 2 (length es) (unless_kept (leb 2 (length es)) 12 at a.1));
      }

  kept_check : SignedKept (signed_in s es) → entries_check es at ≡ passed
  unfolding entries_check
  kept_check k =
      let same = counted s es in
      let least : 2 ≤ length es = omega (arith, k.least_kept) in
      rw (numbers_once_lem s [] es (none_once (numbers (signed_in s es)) k.once_kept), le-leb 2 (length es) least)

-- ---- the list

-- what is known of a list that was read, with what stands behind it
pub record ListRead (newer : Bool) (s : List ℕ) (at : ℕ) (x : Said) : Type 0 where
  pub behind : ℕ
  pub list_there : drop at s ≡ tlv 0x30 (all_signed (signed_in s x.entries)) ++ drop behind s
  pub list_kept : SignedKept (signed_in s x.entries)
  pub list_held : held_in (length s) x.entries ≡ true
  pub version_read : version_at newer s behind ≡ value x.version

module _ (newer : Bool) (s : List ℕ) (at : ℕ) where
  -- what goes on from the list's value, from its entries, and from the version
  abbrev then_version : List GroupHash → Version → Read Said
  then_version q y = value (record { entries = q; version = y })

  abbrev then_checks : Stretch → List GroupHash → Read Said
  then_checks u q = checked (entries_check q at) (and_then (version_at newer s u.to) (then_version q))

  abbrev then_entries : Stretch → Read Said
  then_entries u = and_then (entries (take u.to s) u.from) (then_checks u)

  pub list_of_entries : AreOctets s → (x : Said) → from_entry_list newer s at ≡ value x → ListRead newer s at x
  unfolding from_entry_list entries
  list_of_entries small x e =
      let a = first_value (element s at 0x30) then_entries x e in
      let v = a.0 in
      let t = take v.to s in
      let b = first_value (entries t v.from) (then_checks v) x a.2 in
      let es = b.0 in
      let c = checked_value (entries_check es at) (and_then (version_at newer s v.to) (then_version es)) x b.2 in
      let d = first_value (version_at newer s v.to) (then_version es) x c.1 in
      let h = read_element s at 0x30 small v a.1 in
      let places = place_behind s at 0x30 (cut s v) (drop v.to s) v h in
      let long : length t ≡ v.to = length-take-le v.to s h.ends_within_lem in
      let r = entries_read (suc (length t)) t v.from es (octets_before v.to s small) (omega (arith, places.1)) b.1 in
      let held : held_in v.to es ≡ true = ap (λ (n : ℕ). held_in n es) (sym long) ∙ r.entries_held in
      let same : signed_in t es ≡ signed_in s es = signed_before s v.to es held in
      let content : cut s v ≡ all_signed (signed_in s es) = sym (inside s at 0x30 (cut s v) (drop v.to s) v h)
      ∙ r.entries_there ∙ ap all_signed same in
      subst (ListRead newer s at) (same_value d.2) (record {
        behind = v.to;
        list_there = followed_by 0x30 (drop at s) (cut s v) (all_signed (signed_in s es)) (drop v.to s) (drop v.to s)
            h.octets_there content refl;
        list_kept = check_kept s es at (subst EachKept same r.entries_kept) c.0;
        list_held = held_more v.to (length s) es places.2 held;
        version_read = d.1;
      })

  -- and back, with a version that has what is asked of it
  pub entries_listed : length s ≤ 65535 → (xs : List Signed) (rest : List ℕ) → drop at s ≡ tlv 0x30 (all_signed xs) ++ rest
      → SignedKept xs → (Q : Version → Type 0)
      → ((behind : ℕ) → behind ≤ length s → drop behind s ≡ rest → (y : Version) × (version_at newer s behind ≡ value y) × Q y)
      → (x : Said) × (from_entry_list newer s at ≡ value x) × (signed_in s x.entries ≡ xs)
      × (held_in (length s) x.entries ≡ true) × Q x.version
  unfolding from_entry_list entries EachKept
  entries_listed most xs rest e k Q version =
      let a = element_read s at 0x30 most (all_signed xs) rest e in
      let v = a.0 in
      let h = a.2 in
      let t = take v.to s in
      let places = place_behind s at 0x30 (all_signed xs) rest v h in
      let long : length t ≡ v.to = length-take-le v.to s h.ends_within_lem in
      let b = read_entries (suc (length t)) t v.from xs (take_most v.to 65535 s most) (omega (arith, places.1))
      (omega arith) k.each_kept
      (inside s at 0x30 (all_signed xs) rest v h) in
      let es = b.0 in
      let held : held_in v.to es ≡ true = ap (λ (n : ℕ). held_in n es) (sym long) ∙ b.3 in
      let same : signed_in s es ≡ xs = sym (signed_before s v.to es held) ∙ b.2 in
      let y = version v.to places.2 h.rest_there in
      let x : Said = record { entries = es; version = y.0 } in (
        x,
        value_then (element s at 0x30) then_entries v (value x) a.1
            (value_then (entries t v.from) (then_checks v) es (value x) b.1
            (value_checked (entries_check es at) (and_then (version_at newer s v.to) (then_version es)) (value x)
            (kept_check s es at (subst SignedKept (sym same) k))
            (value_then (version_at newer s v.to) (then_version es) y.0 (value x) y.1 refl))),
        same,
        held_more v.to (length s) es places.2 held,
        y.2,
      )

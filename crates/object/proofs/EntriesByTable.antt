-- What was seen of the entries decides as the list of entries does: the first repeated number, how many there are, and each
-- group's digest.
use Prim.Native.Nat.{ℕ, zero, suc, ◌+◌, ◌<◌}
use Rattle.std.specs.Prelude.{Some, None}
use Rattle.std.specs.Option.{option_or}
use mathlib.Core.Path.{◌≡◌, refl, ap, sym, ◌∙◌, subst}
use mathlib.Core.Bool.{Bool, true, false, cond, not}
use mathlib.Core.List.{List, [], ◌∷◌}
use native.Mathlib.Nat.{zero-add, add-zero}
use native.Mathlib.Numerals.{add-one}
use native.Mathlib.Omega.{arith}
use borrow.Author.Tests.{ne_eqb, eqb-true, eqb-false}
use lib.Dec.{eqb, leb}
use lib.ListN.{length, take, get_or, set, length-set, length-replicate, get_or-replicate}
use lib.Seq.{get_or-set_same, get_or-set_other, ext_get_or}
use Rattle.refusal.specs.Outcome.{Outcome, passed, refused}
use Rattle.tlv.specs.Read.{Read, value, refusal, and_then, checked}
use Rattle.object.specs.declared.entries.Seen.{Seen}
use Rattle.object.specs.declared.strings.Version.{Version}
use Rattle.lent.specs.Octets.{stands}
use Rattle.object.specs.Object.{GroupHash, Said, entry_at, entries_from, entries, numbers_once, entries_check}
use Rattle.object.specs.Object.{digest_for}
use Rattle.object.specs.declared.Object.{Object}
use Rattle.object.specs.Inner.Seen.{none, is_new, counted, tallied, tally_from, once_of, seen_check, digests_from, table_of}
use Rattle.object.specs.Inner.Seen.{kept_of, kept}
use Rattle.lent.proofs.Marks.{Marks, none_marked, one_marked}
use Rattle.tlv.proofs.Joined.{never_value, same_value, first_value}
use Rattle.object.proofs.EntryPlaces.{EntrySound, entry_stands}

-- ---- entries that were read

unfoldable pub AllSound : List GroupHash → Type 0
AllSound [] = Unit {0}
AllSound (e ∷ es) = EntrySound e × AllSound es

pub all_sound : (k : ℕ) (s : List ℕ) (at : ℕ) (es : List GroupHash) → entries_from k s at ≡ value es → AllSound es
unfolding entries_from AllSound
all_sound zero s at es h = absurd (never_value _ at es h)
all_sound (suc k) s at es h = go (leb (length s) at) h (λ from rest. all_sound k s from rest)
  where
    go : (b : Bool)
        → cond b (value []) (and_then (entry_at s at) (λ e. and_then (entries_from k s e.end) (λ rest. value (e ∷ rest))))
        ≡ value es
        → ((from : ℕ) (rest : List GroupHash) → entries_from k s from ≡ value rest → AllSound rest)
        → AllSound es
    go true q below = subst AllSound (same_value q) tt
    go false q below =
        let one = first_value (entry_at s at) _ es q in
        let more = first_value (entries_from k s one.0.end) _ es one.2 in
        subst AllSound (same_value more.2) ((entry_stands s at one.0 one.1).2, below one.0.end more.0 more.1)

-- ---- one entry more

module _ (t : Seen) (e : GroupHash) where
  counted_new : is_new t e.group ≡ true
      → counted t e ≡ record { count = t.count + 1; repeated = t.repeated; digests = set t.digests e.group e.digest }
  unfolding counted
  counted_new h = rw h

  counted_old : is_new t e.group ≡ false
      → counted t e ≡ record { count = t.count + 1; repeated = option_or t.repeated (Some e.place); digests = t.digests }
  unfolding counted
  counted_old h = rw h

  pub counted_count : (counted t e).count ≡ t.count + 1
  counted_count = go (is_new t e.group) refl
    where
      go : (b : Bool) → is_new t e.group ≡ b → (counted t e).count ≡ t.count + 1
      go true h = ap (λ (x : Seen). x.count) (counted_new h)
      go false h = ap (λ (x : Seen). x.count) (counted_old h)

  counted_length : length (counted t e).digests ≡ length t.digests
  counted_length = go (is_new t e.group) refl
    where
      go : (b : Bool) → is_new t e.group ≡ b → length (counted t e).digests ≡ length t.digests
      go true h = ap (λ (x : Seen). length x.digests) (counted_new h) ∙ length-set t.digests e.group e.digest
      go false h = ap (λ (x : Seen). length x.digests) (counted_old h)

  -- the first integer that repeats another stays
  counted_repeated : (p : ℕ) → t.repeated ≡ Some p → (counted t e).repeated ≡ Some p
  counted_repeated p k = go (is_new t e.group) refl
    where
      go : (b : Bool) → is_new t e.group ≡ b → (counted t e).repeated ≡ Some p
      go true h = ap (λ (x : Seen). x.repeated) (counted_new h) ∙ k
      go false h = ap (λ (x : Seen). x.repeated) (counted_old h) ∙ ap (λ o. option_or o (Some e.place)) k

-- ---- how many

tallied_count : (es : List GroupHash) (t : Seen) → (tallied t es).count ≡ t.count + length es
unfolding tallied
tallied_count [] t = sym (add-zero t.count)
tallied_count (e ∷ es) t =
    let h : (tallied (counted t e) es).count ≡ (counted t e).count + length es = tallied_count es (counted t e) in
    let k : (counted t e).count ≡ t.count + 1 = counted_count t e in
    let j : suc (length es) ≡ length es + 1 = sym (add-one (length es)) in
    rw j (omega arith)

-- ---- the first repeated number

tallied_kept : (es : List GroupHash) (t : Seen) (p : ℕ) → t.repeated ≡ Some p → (tallied t es).repeated ≡ Some p
unfolding tallied
tallied_kept [] t p k = k
tallied_kept (e ∷ es) t p k = tallied_kept es (counted t e) p (counted_repeated t e p k)

-- an entry whose number stands before, or not
module _ (t : Seen) (e : GroupHash) (es : List GroupHash) (before : List ℕ) (sound : EntrySound e)
    (marks : Marks 17 t.digests before) where
  stands_old : stands e.group before ≡ not (is_new t e.group)
  unfolding Marks is_new
  stands_old = marks e.group (omega (arith, sound.numbered.1))

  repeated_here : is_new t e.group ≡ false → t.repeated ≡ None
      → once_of (tallied (counted t e) es).repeated ≡ numbers_once before (e ∷ es)
  unfolding numbers_once once_of
  repeated_here old z =
      let r : (counted t e).repeated ≡ Some e.place =
      ap (λ (x : Seen). x.repeated) (counted_old t e old) ∙ ap (λ o. option_or o (Some e.place)) z in
      let k : (tallied (counted t e) es).repeated ≡ Some e.place = tallied_kept es (counted t e) e.place r in
      let st : stands e.group before ≡ true = stands_old ∙ ap not old in
      rw (k, st)

  repeated_later : is_new t e.group ≡ true
      → once_of (tallied (counted t e) es).repeated ≡ numbers_once (e.group ∷ before) es
      → once_of (tallied (counted t e) es).repeated ≡ numbers_once before (e ∷ es)
  unfolding numbers_once
  repeated_later new below =
      let st : stands e.group before ≡ false = stands_old ∙ ap not new in
      rw st below

  marks_new : is_new t e.group ≡ true → length t.digests ≡ 17 → Marks 17 (counted t e).digests (e.group ∷ before)
  marks_new new len =
      let q : (counted t e).digests ≡ set t.digests e.group e.digest = ap (λ (x : Seen). x.digests)
      (counted_new t e new) in
      rw q (one_marked 17 t.digests before e.group e.digest marks len (omega (arith, sound.numbered.1))
      sound.digested)

tallied_repeated : (es : List GroupHash) (t : Seen) (before : List ℕ) → AllSound es → Marks 17 t.digests before
    → length t.digests ≡ 17
    → t.repeated ≡ None → once_of (tallied t es).repeated ≡ numbers_once before es
unfolding AllSound tallied numbers_once once_of
tallied_repeated [] t before sound marks len z = rw z
tallied_repeated (e ∷ es) t before sound marks len z =
    go (is_new t e.group) refl (tallied_repeated es (counted t e) (e.group ∷ before) sound.1)
  where
    go : (b : Bool) → is_new t e.group ≡ b
        → (Marks 17 (counted t e).digests (e.group ∷ before) → length (counted t e).digests ≡ 17 → (counted t e).repeated ≡ None
        → once_of (tallied (counted t e) es).repeated ≡ numbers_once (e.group ∷ before) es)
        → once_of (tallied (counted t e) es).repeated ≡ numbers_once before (e ∷ es)
    go true new below =
        let none_still : (counted t e).repeated ≡ None = ap (λ (x : Seen). x.repeated) (counted_new t e new) ∙ z in
        repeated_later t e es before sound.0 marks new
        (below (marks_new t e es before sound.0 marks new len) (counted_length t e ∙ len) none_still)
    go false old below = repeated_here t e es before sound.0 marks old z

-- ---- each group's digest

tallied_length : (es : List GroupHash) (t : Seen) → length (tallied t es).digests ≡ length t.digests
unfolding tallied
tallied_length [] t = refl
tallied_length (e ∷ es) t = tallied_length es (counted t e) ∙ counted_length t e

-- a digest stored in the table, and one that is not since another stands there
module _ (ds : List ℕ) (eg ed g d : ℕ) where
  stored : eg < length ds → 0 < ed → eqb (get_or ds eg 0) 0 ≡ true
      → cond (eqb (get_or (set ds eg ed) g 0) 0) d (get_or (set ds eg ed) g 0)
      ≡ cond (eqb (get_or ds g 0) 0) (cond (eqb eg g) ed d) (get_or ds g 0)
  stored h some new = go (eqb eg g) refl
    where
      go : (b : Bool) → eqb eg g ≡ b
          → cond (eqb (get_or (set ds eg ed) g 0) 0) d (get_or (set ds eg ed) g 0)
          ≡ cond (eqb (get_or ds g 0) 0) (cond b ed d) (get_or ds g 0)
      go true e =
          let q : eg ≡ g = eqb-true eg g e in
          rw (← q, get_or-set_same ds eg ed 0 h, ne_eqb ed 0 (λ z. omega arith), new)
      go false e = rw (get_or-set_other ds eg g ed 0 (λ z. eqb-false eg g e (sym z)))

  not_stored : eqb (get_or ds eg 0) 0 ≡ false
      → cond (eqb (get_or ds g 0) 0) d (get_or ds g 0) ≡ cond (eqb (get_or ds g 0) 0) (cond (eqb eg g) ed d) (get_or ds g 0)
  not_stored old = go (eqb eg g) refl
    where
      go : (b : Bool) → eqb eg g ≡ b
          → cond (eqb (get_or ds g 0) 0) d (get_or ds g 0) ≡ cond (eqb (get_or ds g 0) 0) (cond b ed d) (get_or ds g 0)
      go true e =
          let q : eg ≡ g = eqb-true eg g e in
          rw (← q, old)
      go false e = refl

digest_step : (t : Seen) (e : GroupHash) (es : List GroupHash) (g : ℕ) → EntrySound e → length t.digests ≡ 17
    → cond (is_new (counted t e) g) (digest_for g es) (get_or (counted t e).digests g 0)
    ≡ cond (is_new t g) (digest_for g (e ∷ es)) (get_or t.digests g 0)
unfolding is_new digest_for
digest_step t e es g sound len = go (eqb (get_or t.digests e.group 0) 0) refl
  where
    go : (b : Bool) → eqb (get_or t.digests e.group 0) 0 ≡ b
        → cond (eqb (get_or (counted t e).digests g 0) 0) (digest_for g es) (get_or (counted t e).digests g 0)
        ≡ cond (eqb (get_or t.digests g 0) 0) (cond (eqb e.group g) e.digest (digest_for g es)) (get_or t.digests g 0)
    go true new =
        let q : (counted t e).digests ≡ set t.digests e.group e.digest = ap (λ (x : Seen). x.digests)
        (counted_new t e new) in
        rw q (stored t.digests e.group e.digest g (digest_for g es) (omega (arith, sound.numbered.1))
        sound.digested new)
    go false old =
        let q : (counted t e).digests ≡ t.digests = ap (λ (x : Seen). x.digests) (counted_old t e old) in
        rw q (not_stored t.digests e.group e.digest g (digest_for g es) old)

tallied_digest : (es : List GroupHash) (t : Seen) (g : ℕ) → AllSound es → length t.digests ≡ 17 → g < 17
    → get_or (tallied t es).digests g 0 ≡ cond (is_new t g) (digest_for g es) (get_or t.digests g 0)
unfolding AllSound tallied digest_for is_new
tallied_digest [] t g sound len h = go (eqb (get_or t.digests g 0) 0) refl
  where
    go : (b : Bool) → eqb (get_or t.digests g 0) 0 ≡ b → get_or t.digests g 0 ≡ cond b 0 (get_or t.digests g 0)
    go true e = eqb-true (get_or t.digests g 0) 0 e
    go false e = refl
tallied_digest (e ∷ es) t g sound len h =
    tallied_digest es (counted t e) g sound.1 (counted_length t e ∙ len) h ∙ digest_step t e es g sound.0 len

digests_length : (n g : ℕ) (es : List GroupHash) → length (digests_from n g es) ≡ n
unfolding digests_from
digests_length zero g es = refl
digests_length (suc n) g es = ap suc (digests_length n (suc g) es)

digests_at : (n g : ℕ) (es : List GroupHash) (i : ℕ) → i < n → get_or (digests_from n g es) i 0 ≡ digest_for (g + i) es
unfolding digests_from
digests_at zero g es i h = absurd (omega arith)
digests_at (suc n) g es zero h = rw (add-zero g)
digests_at (suc n) g es (suc i) h =
    let k : suc g + i ≡ g + suc i = omega arith in
    digests_at n (suc g) es i (omega arith) ∙ ap (λ x. digest_for x es) k

-- where the digest of a group begins, out of the table
pub table_has : (o : Said) (g : ℕ) → g < 17 → get_or (table_of o) g 0 ≡ digest_for g o.entries
unfolding table_of
table_has o g h = digests_at 17 0 o.entries g h ∙ ap (λ x. digest_for x o.entries) (zero-add g)

pub table_length : (o : Said) → length (table_of o) ≡ 17
unfolding table_of
table_length o = digests_length 17 0 o.entries

new_digest : (g d : ℕ) → g < 17 → cond (is_new none g) d (get_or none.digests g 0) ≡ d
unfolding is_new
new_digest g d h = rw (get_or-replicate {A = ℕ} 17 g 0 0 h)

seen_table : (es : List GroupHash) → AllSound es → (tallied none es).digests ≡ digests_from 17 0 es
seen_table es sound =
    let l : length (tallied none es).digests ≡ 17 = tallied_length es none ∙ length-replicate {A = ℕ} 17 0 in
    ext_get_or 0 (tallied none es).digests (digests_from 17 0 es) (l ∙ sym (digests_length 17 0 es)) (λ i h. at i (omega arith))
  where
    at : (i : ℕ) → i < 17 → get_or (tallied none es).digests i 0 ≡ get_or (digests_from 17 0 es) i 0
    at i h =
        tallied_digest es none i sound (length-replicate {A = ℕ} 17 0) h
        ∙ (new_digest i (digest_for i es) h ∙ sym (digests_at 17 0 es i h ∙ ap (λ x. digest_for x es) (zero-add i)))

-- ---- the tests after all entries, and what follows

seen_check_lem : (es : List GroupHash) (at : ℕ) → AllSound es → seen_check (tallied none es) at ≡ entries_check es at
unfolding seen_check entries_check
seen_check_lem es at sound =
    let r : once_of (tallied none es).repeated
    ≡ numbers_once [] es = tallied_repeated es none [] sound (none_marked 17) (length-replicate {A = ℕ} 17 0) refl in
    let k : (tallied none es).count ≡ length es = tallied_count es none ∙ zero-add (length es) in
    rw (r, k)

-- what is kept of the entries and of the version behind them
kept_with : List ℕ → Version → Read Object
kept_with table x = value (record { digests = table; version = x })

told_checked : (a : Outcome) (b : Read Version) (es : List GroupHash)
    → checked a (and_then b (kept_with (digests_from 17 0 es)))
    ≡ kept (checked a (and_then b (λ x. value (record { entries = es; version = x }))))
unfolding kept kept_of checked and_then table_of kept_with
told_checked passed (value x) es = refl
told_checked passed (refusal n p) es = refl
told_checked (refused n p) b es = refl

list_told : (x : Read (List GroupHash)) (at : ℕ) (rest : Read Version) → ((es : List GroupHash) → x ≡ value es → AllSound es)
    → and_then (and_then x (λ es. value (tallied none es))) (λ t.
    checked (seen_check t at) (and_then rest (kept_with t.digests)))
    ≡ kept (and_then x (λ es. checked (entries_check es at)
    (and_then rest (λ x. value (record { entries = es; version = x })))))
unfolding kept and_then
list_told (value es) at rest sound =
    let all = sound es refl in
    let t = tallied none es in
    ap (λ (d : List ℕ). checked (seen_check t at) (and_then rest (kept_with d))) (seen_table es all)
    ∙ ap (λ (o : Outcome). checked o (and_then rest (kept_with (digests_from 17 0 es)))) (seen_check_lem es at all)
    ∙ told_checked (entries_check es at) rest es
list_told (refusal n p) at rest sound = refl

-- the same of the entries in a stretch
pub walk_told : (s : List ℕ) (at from to : ℕ) (rest : Read Version)
    → and_then (tally_from (take to s) from none) (λ t.
    checked (seen_check t at) (and_then rest (λ x. value (record { digests = t.digests; version = x }))))
    ≡ kept (and_then (entries (take to s) from) (λ es.
    checked (entries_check es at) (and_then rest (λ x. value (record { entries = es; version = x })))))
unfolding tally_from entries kept_with
walk_told s at from to rest =
    let t = take to s in
    list_told (entries t from) at rest (all_sound (suc (length t)) t from)

-- Where an entry and its parts stand: it ends behind its place and within what holds it, its integer and its digest stand behind
-- its place, the integer before its end, and its number is 1 to 16.
use Prim.Native.Nat.{ℕ, ◌≤◌, ◌<◌}
use mathlib.Core.Path.{◌≡◌, ap, sym}
use mathlib.Core.Bool.{◌&&◌}
use mathlib.Core.List.{List}
use native.Mathlib.Omega.{arith}
use borrow.Author.Tests.{leb-true, eqb-true}
use lib.Dec.{eqb, leb}
use lib.ListN.{length, take, get_or}
use lib.Seq.{length-take-le}
use Rattle.lent.proofs.Bools.{and_both}
use Rattle.refusal.specs.Outcome.{unless}
use Rattle.tlv.specs.Read.{value}
use Rattle.tlv.specs.Element.{element}
use Rattle.refusal.proofs.Outcomes.{unless_kept}
use Rattle.tlv.proofs.Joined.{same_value, first_value, checked_value}
use Rattle.tlv.proofs.Past.{value_within}
use Rattle.tlv.specs.Cut.{end_check, has_octets}
use Rattle.object.specs.Object.{GroupHash, is_group_number, digest_at, number_at, entry_at}

-- what is known of an entry that was read
pub record EntrySound (e : GroupHash) : Type 0 where
  pub numbered : (1 ≤ e.group) × (e.group ≤ 16)
  pub placed : 0 < e.place
  pub digested : 0 < e.digest
  pub ahead : e.place ≤ e.end

-- the digest, in what holds the entry
digest_stands : (s : List ℕ) (group place at : ℕ) (e : GroupHash) → digest_at s group place at ≡ value e
    → (e.group ≡ group) × (e.place ≡ place) × (at < e.digest) × (e.end ≡ length s)
unfolding digest_at end_check
digest_stands s group place at e h =
    let read = first_value (element s at 0x04) _ e h in
    let v = read.0 in
    let a = checked_value (unless (has_octets 32 v) 12 at) _ e read.2 in
    let b = checked_value (unless (eqb v.to (length s)) 10 v.to) _ e a.1 in
    let q : record { group = group; place = place; digest = v.from; end = v.to } ≡ e = same_value b.1 in
    let ends : v.to ≡ length s = eqb-true v.to (length s) (unless_kept (eqb v.to (length s)) 10 v.to b.0) in
    let begins : at < v.from = (value_within s at 0x04 v read.1).0 in
    let d : v.from ≡ e.digest = ap (λ (x : GroupHash). x.digest) q in
    let t : v.to ≡ e.end = ap (λ (x : GroupHash). x.end) q in
    (sym (ap (λ (x : GroupHash). x.group) q), sym (ap (λ (x : GroupHash). x.place) q), omega arith, omega arith)

number_stands : (s : List ℕ) (at : ℕ) (e : GroupHash) → number_at s at ≡ value e
    → ((1 ≤ e.group) × (e.group ≤ 16)) × (e.place ≡ at) × (at < e.digest) × (e.end ≡ length s)
unfolding number_at is_group_number
number_stands s at e h =
    let read = first_value (element s at 0x02) _ e h in
    let v = read.0 in
    let n = get_or s v.from 0 in
    let a = checked_value (unless (has_octets 1 v && (leb 1 n && leb n 16)) 12 at) _ e read.2 in
    let r = and_both (leb 1 n) (leb n 16)
    (and_both (has_octets 1 v) (leb 1 n && leb n 16) (unless_kept (has_octets 1 v && (leb 1 n && leb n 16)) 12 at a.0)).1 in
    let d = digest_stands s n at v.to e a.1 in
    let stood = value_within s at 0x02 v read.1 in
    let ends : at < v.to = omega (arith, stood.0, stood.1) in
    let low : 1 ≤ n = leb-true 1 n r.0 in
    let high : n ≤ 16 = leb-true n 16 r.1 in
    let same : e.group ≡ n = d.0 in
    let later : v.to < e.digest = d.2 in
    ((omega arith, omega arith), d.1, omega arith, d.3)

pub entry_stands : (s : List ℕ) (at : ℕ) (e : GroupHash) → entry_at s at ≡ value e
    → (at < e.end) × (e.end ≤ length s) × EntrySound e
unfolding entry_at
entry_stands s at e h =
    let read = first_value (element s at 0x30) _ e h in
    let v = read.0 in
    let d = number_stands (take v.to s) v.from e read.2 in
    let k = value_within s at 0x30 v read.1 in
    let within : length (take v.to s) ≡ v.to = length-take-le v.to s k.2 in
    let ends : e.end ≡ length (take v.to s) = d.3 in
    let place : e.place ≡ v.from = d.1 in
    let later : v.from < e.digest = d.2 in (
      omega (arith, k.0, k.1),
      omega (arith, k.2),
      record { numbered = d.0; placed = omega (arith, k.0); digested = omega (arith, k.0); ahead = omega (arith, k.1) },
    )

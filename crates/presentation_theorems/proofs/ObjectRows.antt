-- Stage 4 as rows: reading the security object is its checks, before what it says.
use Prim.Native.Nat.{ℕ, ◌≤◌, ◌<◌}
use mathlib.Core.Path.{◌≡◌, refl, ap, ◌∙◌}
use mathlib.Core.Bool.{Bool, true, false, not, ◌&&◌, ◌||◌}
use mathlib.Core.List.{List, [], ◌∷◌, ◌++◌, map}
use native.Mathlib.Omega.{arith}
use lib.Dec.{eqb, leb}
use lib.ListN.{length, take, get_or}
use lib.Seq.{length-take-le}
use Rattle.refusal.specs.Outcome.{passed, or_else, unless}
use Rattle.refusal.proofs.Outcomes.{both_passed}
use Rattle.lent.specs.Octets.{stands}
use Rattle.tlv.proofs.Onward.{some_place}
use Rattle.tlv.specs.Read.{Read, value, and_then, checked}
use Rattle.tlv.specs.Element.{tag_width}
use Rattle.tlv.specs.Cut.{cut, has_octets, end_check}
use Rattle.tlv.specs.Tags as Tag
use Rattle.tlv.specs.Versions.{both}
use Rattle.object.specs.declared.strings.Strings.{Strings}
use Rattle.object.specs.declared.strings.Version.{Version}
use Rattle.object.specs.declared.strings.Version.TheVariants.{One}
use Rattle.object.specs.Object.{GroupHash, is_group_number, digest_at, number_at, entry_at, entries_from, entries, numbers_once}
use Rattle.object.specs.Object.{Said, entries_check, strings_at, sequence_at}
use Rattle.object.specs.Object.{version_at, from_entry_list, is_sha256, from_algorithm}
use Rattle.object.specs.Object.{is_version, from_version}
use Rattle.text_theorems.proofs.FirstOf.{first_of}
use Rattle.tlv.specs.Places.{stretch_at}
use Rattle.row_theorems.specs.Standing.{coded, each}
use Rattle.presentation_theorems.specs.ObjectChecks.{version_checks, is_one, algorithm_place, algorithm_checks, entries_place}
use Rattle.presentation_theorems.specs.ObjectChecks.{sequence_bytes, number_place, number_stretch, digest_stretch, group_hash}
use Rattle.presentation_theorems.specs.ObjectChecks.{entry_checks, entry_places, repeated_checks, places_in, entries_in}
use Rattle.presentation_theorems.specs.ObjectChecks.{lds_stretch, unicode_stretch, strings_checks, behind_checks, version_behind}
use Rattle.presentation_theorems.specs.ObjectChecks.{entry_list_checks, version_of, object_checks}
use Rattle.presentation_theorems.proofs.Elements.{end_there}
use Rattle.row_theorems.proofs.Rows.{step_known, under, keep, first_then, checked_else, stops, step_then, element_then}
use Rattle.row_theorems.proofs.Rows.{element_of_two, coded_within, last_of, last_passed}
use Rattle.row_theorems.proofs.Places.{places_rows}

-- ---- one entry

entry_rows : (s : List ℕ) (at : ℕ) → entry_at s at ≡ under (entry_checks s at) (value (group_hash s at))
unfolding
    entry_at number_at is_group_number digest_at entry_checks sequence_bytes number_place number_stretch digest_stretch group_hash
    under
entry_rows s at =
    let v = stretch_at s at Tag.sequence in
    let e = take v.to s in
    let n = stretch_at e v.from Tag.integer in
    let d = stretch_at e n.to Tag.octet_string in
    element_then s at Tag.sequence _
    ∙ keep (coded s at Tag.sequence)
    (element_of_two e v.from Tag.integer (has_octets 1) (λ u. leb 1 (get_or e u.from 0) && leb (get_or e u.from 0) 16) 12
    (λ u. digest_at e (get_or e u.from 0) v.from u.to)
    (coded e n.to Tag.octet_string ∷ unless (has_octets 32 d) 12 n.to ∷ end_check e d.to ∷ []) (value (group_hash s at))
    (element_then e n.to Tag.octet_string _))

-- no digest begins at 0, whatever stands there
pub some_digest : (s : List ℕ) (at : ℕ) → 0 < (group_hash s at).digest
unfolding group_hash digest_stretch tag_width
some_digest s at = omega (arith, some_place (sequence_bytes s at) (number_stretch s at).to Tag.octet_string)

-- the next stands where its sequence ends: nothing is left over in it
entry_ends : (s : List ℕ) (at : ℕ) → first_of (entry_checks s at) ≡ passed
    → (at < (stretch_at s at Tag.sequence).to) × ((stretch_at s at Tag.sequence).to ≤ length s)
    × ((group_hash s at).end ≡ (stretch_at s at Tag.sequence).to)
unfolding entry_checks sequence_bytes number_place number_stretch digest_stretch group_hash first_of last_of
entry_ends s at e =
    let v = stretch_at s at Tag.sequence in
    let l = take v.to s in
    let n = stretch_at l v.from Tag.integer in
    let d = stretch_at l n.to Tag.octet_string in
    let within = coded_within s at Tag.sequence (both_passed (coded s at Tag.sequence) _ e).0 in
    let end : d.to ≡ length l = end_there l d.to (last_passed (entry_checks s at) e) in
    (omega (arith, within.0, within.1), within.2, end ∙ length-take-le v.to s within.2)

-- ---- the entries, and what is asked of all

entries_rows : (s : List ℕ) (at : ℕ)
    → entries s at ≡ under (each (entry_checks s) (entry_places s at)) (value (map (group_hash s) (entry_places s at)))
unfolding entries entries_from entry_places
entries_rows s at =
    places_rows (length s) (entry_at s) (entry_checks s) (group_hash s) (λ e. e.end) (λ p. (stretch_at s p Tag.sequence).to)
    (λ p e. e) (λ k p. entries_from k s p) (λ k p. refl) (entry_rows s) (entry_ends s) at

repeated_rows : (before : List ℕ) (es : List GroupHash) → numbers_once before es ≡ first_of (repeated_checks before es)
unfolding numbers_once repeated_checks first_of
repeated_rows before [] = refl
repeated_rows before (e ∷ es) =
    stops (stands e.group before) 12 e.place (numbers_once (e.group ∷ before) es)
    ∙ ap (or_else (unless (not (stands e.group before)) 12 e.place)) (repeated_rows (e.group ∷ before) es)

-- ---- what stands behind them

sequence_rows : (s : List ℕ) (at : ℕ)
    → sequence_at s at ≡ under (strings_checks s at) (value (record { lds = lds_stretch s at; unicode = unicode_stretch s at }))
unfolding sequence_at strings_at strings_checks lds_stretch unicode_stretch sequence_bytes under
sequence_rows s at =
    let v = stretch_at s at Tag.sequence in
    let l = take v.to s in
    let a = stretch_at l v.from Tag.printable_string in
    let b = stretch_at l a.to Tag.printable_string in
    let t : Strings = record { lds = a; unicode = b } in
    let close : Strings → Read Strings = λ x. checked (end_check s v.to) (value x) in
    element_then s at Tag.sequence _
    ∙ keep (coded s at Tag.sequence)
    (step_known (coded l v.from Tag.printable_string ∷ coded l a.to Tag.printable_string ∷ end_check l b.to ∷ [])
    (strings_at l v.from) t close
    (element_then l v.from Tag.printable_string _
    ∙ keep (coded l v.from Tag.printable_string) (element_then l a.to Tag.printable_string _)))

behind_rows : (newer : Bool) (s : List ℕ) (at : ℕ)
    → version_at newer s at ≡ under (behind_checks newer s at) (value (version_behind newer s at))
unfolding version_at behind_checks version_behind under
behind_rows false s at = refl
behind_rows true s at =
    let t : Strings = record { lds = lds_stretch s at; unicode = unicode_stretch s at } in
    step_known (strings_checks s at) (sequence_at s at) t (λ (x : Strings). value (One x)) (sequence_rows s at)

-- ---- the list, and all of it

-- what a list says, and what stands behind it
unfoldable said_at : Bool → List ℕ → ℕ → Said
said_at newer s at = record {
  entries = entries_in s at;
  version = version_behind newer s (stretch_at s at Tag.sequence).to;
}

list_rows : (newer : Bool) (s : List ℕ) (at : ℕ)
    → from_entry_list newer s at ≡ under (entry_list_checks newer s at) (value (said_at newer s at))
unfolding from_entry_list entries_check entry_list_checks places_in sequence_bytes entries_in said_at under
list_rows newer s at =
    let v = stretch_at s at Tag.sequence in
    let l = take v.to s in
    let ps = entry_places l v.from in
    let es = map (group_hash l) ps in
    let few = unless (leb 2 (length es)) 12 at in
    let last = few ∷ behind_checks newer s v.to in
    let go : Version → Read Said = λ x. value (record { entries = es; version = x }) in
    let end = and_then (version_at newer s v.to) go in
    let all : Said = record { entries = es; version = version_behind newer s v.to } in
    element_then s at Tag.sequence _
    ∙ keep (coded s at Tag.sequence)
    (step_then (each (entry_checks l) ps) (repeated_checks [] es ++ last) (entries l v.from) es _ (value all)
    (entries_rows l v.from)
    (checked_else (numbers_once [] es) few end
    ∙ first_then (numbers_once [] es) (repeated_checks [] es) last (checked few end) (value all) (repeated_rows [] es)
    (keep few (step_known (behind_checks newer s v.to) (version_at newer s v.to) (version_behind newer s v.to) go
    (behind_rows newer s v.to)))))

algorithm_rows : (newer : Bool) (s : List ℕ) (at : ℕ) → from_algorithm newer s at
    ≡ under (algorithm_checks s at ++ entry_list_checks newer s (stretch_at s at Tag.sequence).to)
    (value (said_at newer s (stretch_at s at Tag.sequence).to))
unfolding from_algorithm algorithm_checks under
algorithm_rows newer s at =
    let v = stretch_at s at Tag.sequence in
    element_then s at Tag.sequence _
    ∙ keep (coded s at Tag.sequence) (keep (unless (is_sha256 (cut s v)) 13 at) (list_rows newer s v.to))

pub object_rows : (s : List ℕ) (at : ℕ) → from_version both s at
    ≡ under (object_checks s at) (value (record { entries = entries_in s (entries_place s at); version = version_of s at }))
unfolding from_version is_version object_checks version_checks is_one algorithm_place entries_place version_of said_at
object_rows s at =
    let v = stretch_at s at Tag.integer in
    element_of_two s at Tag.integer (has_octets 1) (λ v. eqb (get_or s v.from 0) 0 || eqb (get_or s v.from 0) 1) 12
    (λ v. from_algorithm (eqb (get_or s v.from 0) 1) s v.to) _ _
    (algorithm_rows (eqb (get_or s v.from 0) 1) s v.to)

-- THE FULL NAME, as the sentence says: in the file exactly where that holds one (`name_in_file`), else in the text exactly where
-- that is accepted, without trailing fillers (`name_in_text`, `text_name`), and else nowhere (`name_nowhere`, `no_name`).
use Prim.Native.Nat.{ℕ, ◌+◌, ◌-◌, ◌≤◌, ◌<◌}
use mathlib.Core.Path.{◌≡◌, refl, ap, sym, ◌∙◌}
use mathlib.Core.Bool.{Bool, true, false, ◌||◌, false≢true}
use mathlib.Core.List.{List, [], ◌∷◌, ◌++◌}
use mathlib.Core.Logic.{◌↔◌}
use native.Mathlib.Omega.{arith}
use borrow.Author.Tests.{leb-false, lt-leb, eqb-true}
use lib.Dec.{eqb}
use lib.ListN.{length, drop, length-take, length-drop}
use lib.Seq.{take-take}
use Rattle.lent.specs.Octets.{stands}
use Rattle.refusal.specs.Outcome.{Outcome, passed, refused}
use Rattle.refusal.proofs.Outcomes.{refused_not_passed}
use Rattle.zone.specs.Octets.{AreOctets}
use Rattle.zone.specs.declared.form.Form.{Form}
use Rattle.zone.specs.declared.form.Source.TheVariants.{Alone}
use Rattle.zone.specs.Part as part
use Rattle.zone.specs.Form.{start, width, field}
use Rattle.zone.specs.Record.{trimmed, trimmed_length}
use Rattle.zone.proofs.Padded.{trimmed_le}
use Rattle.text.specs.Read.{read_text}
use Rattle.tlv.specs.declared.Stretch.{Stretch}
use Rattle.tlv.specs.Read.{Read, value, refusal}
use Rattle.tlv.specs.Cut.{cut}
use Rattle.tlv.proofs.Joined.{first_value, same_value}
use Rattle.details.specs.Tags.{full_name_tag}
use Rattle.details.specs.Details.{read_details, value_for, read_detail}
use Rattle.full_name.specs.declared.From.{From}
use Rattle.full_name.specs.declared.From.TheVariants.{Nowhere, File, Text}
use Rattle.full_name.specs.declared.Name.{Name}
use Rattle.full_name.specs.FullName.{nothing, is_empty, value_in, in_file, name_at}
use Rattle.full_name.specs.FullName.{name_by, in_text, full_name, part_of, full_name_part}
use Rattle.detail_theorems.specs.Named.{Named, tags_of, Right, group_octets, stretch_of, given_octets}
use Rattle.detail_theorems.specs.NameHeld.{HeldInFile}
use Rattle.detail_theorems.proofs.Acceptance.{read_grouped, detail_told}
use Rattle.detail_theorems.proofs.Values.{detail_there, content_some, detail_none}

-- ---- the file

-- a stretch of some octets is not empty
some_octets : (s : List ℕ) (v : Stretch) → 0 < length (cut s v) → is_empty v ≡ false
unfolding cut is_empty
some_octets s v h = let l = length-take (v.to - v.from) (drop v.from s) in lt-leb v.to v.from (omega (arith, l, h))

octets_some : (s : List ℕ) (v : Stretch) → is_empty v ≡ false → v.to ≤ length s → 0 < length (cut s v)
unfolding cut is_empty
octets_some s v e low =
    let k = leb-false v.to v.from e in
    rw (length-take, length-drop) (omega (arith, k, low))

pub held_in_file : (file name : List ℕ) → HeldInFile file name
    → (is_empty (in_file file) ≡ false) × (cut file (in_file file) ≡ name)
unfolding in_file value_in given_octets
held_in_file file name h =
    let n : Named = record { tag = full_name_tag; content = name } in
    let ns = h.before ++ (n ∷ h.behind) in
    let told : read_detail file full_name_tag ≡ value (stretch_of full_name_tag ns) =
    ap (λ (s : List ℕ). read_detail s full_name_tag) h.octets ∙ detail_told ns h.right full_name_tag in
    let here : cut file (stretch_of full_name_tag ns) ≡ name =
    ap (λ (s : List ℕ). cut s (stretch_of full_name_tag ns)) h.octets ∙ detail_there n h.behind h.before h.right in
    let some : 0 < length (cut file (stretch_of full_name_tag ns)) = rw here h.some_name in
    (rw told (some_octets file (stretch_of full_name_tag ns) some), rw told here)

-- the element that a tag names
record Found (ns : List Named) (tag : ℕ) : Type 0 where
  before : List Named
  behind : List Named
  content : List ℕ
  parted : ns ≡ before ++ (record { tag = tag; content = content } ∷ behind)

find : (ns : List Named) (tag : ℕ) → stands tag (tags_of ns) ≡ true → Found ns tag
unfolding stands
find [] tag e = absurd (false≢true e)
find (n ∷ ns) tag e = go (eqb tag n.tag) refl e (find ns tag)
  where
    go : (b : Bool) → eqb tag n.tag ≡ b → b || stands tag (tags_of ns) ≡ true
        → (stands tag (tags_of ns) ≡ true → Found ns tag) → Found (n ∷ ns) tag
    go true q f rest = record {
      before = [];
      behind = ns;
      content = n.content;
      parted = rw (eqb-true tag n.tag q);
    }
    go false q f rest = let r = rest f in record {
      before = n ∷ r.before;
      behind = r.behind;
      content = r.content;
      parted = ap (λ (l : List Named). n ∷ l) r.parted;
    }

module _ (file : List ℕ) (octets : AreOctets file) where
  -- of elements as said, where the full name's stretch is not empty, the file holds it
  found_held : (ns : List Named) → Right ns → file ≡ group_octets ns → is_empty (stretch_of full_name_tag ns) ≡ false
      → Found ns full_name_tag → (name : List ℕ) × HeldInFile file name
  unfolding is_empty
  found_held ns right e some f =
      let n : Named = record { tag = full_name_tag; content = f.content } in
      let right' = rw f.parted at right in
      let some' = rw f.parted at (leb-false (stretch_of full_name_tag ns).to (stretch_of full_name_tag ns).from some) in (
        f.content,
        record {
          before = f.before;
          behind = f.behind;
          right = right';
          octets = e ∙ ap group_octets f.parted;
          some_name = content_some n f.behind f.before right' refl some';
        },
      )

  some_held : (ns : List Named) → Right ns → file ≡ group_octets ns → is_empty (stretch_of full_name_tag ns) ≡ false
      → (name : List ℕ) × HeldInFile file name
  unfolding is_empty
  some_held ns right e some = go (stands full_name_tag (tags_of ns)) refl
    where
      go : (b : Bool) → stands full_name_tag (tags_of ns) ≡ b → (name : List ℕ) × HeldInFile file name
      go true q = found_held ns right e some (find ns full_name_tag q)
      go false q = absurd (false≢true (sym (rw (detail_none ns full_name_tag q) at some)))

  file_holds : is_empty (in_file file) ≡ false → (name : List ℕ) × HeldInFile file name
  unfolding in_file value_in is_empty read_detail
  file_holds some = go (read_detail file full_name_tag) refl some
    where
      go : (m : Read Stretch) → read_detail file full_name_tag ≡ m → is_empty (value_in m) ≡ false
          → (name : List ℕ) × HeldInFile file name
      go (value v) e h =
          let a = first_value (read_details file) (λ ds. value (value_for full_name_tag ds)) v e in
          let g = read_grouped file octets a.0 a.1 in
          let told = ap (λ (s : List ℕ). read_detail s full_name_tag) g.2 ∙ detail_told g.0 g.1 full_name_tag in
          let same : v ≡ stretch_of full_name_tag g.0 = same_value (sym e ∙ told) in
          some_held g.0 g.1 g.2 (rw same at h)
      go (refusal n p) e h = absurd (false≢true (sym h))

-- ---- by cases

-- each of the three apart
unfoldable turn : From → ℕ
turn Nowhere = 0
turn File = 1
turn Text = 2

text_file : Text ≡ File → ⊥
unfolding turn
text_file e = let z : ◌≡◌ {A = ℕ} 2 1 = ap turn e in omega arith

nowhere_file : Nowhere ≡ File → ⊥
unfolding turn
nowhere_file e = let z : ◌≡◌ {A = ℕ} 0 1 = ap turn e in omega arith

nowhere_text : Nowhere ≡ Text → ⊥
unfolding turn
nowhere_text e = let z : ◌≡◌ {A = ℕ} 0 2 = ap turn e in omega arith

module _ (file text : List ℕ) (octets : AreOctets file) where
  -- the text is asked where the file holds none
  abbrev read : Outcome
  read = (read_text Alone text).outcome

  abbrev form : Form
  form = (read_text Alone text).kept.form

  in_text_lem : is_empty (in_file file) ≡ true → full_name file text ≡ name_by read form text
  unfolding full_name in_text
  in_text_lem e = rw e

  in_file_lem : is_empty (in_file file) ≡ false → full_name file text ≡ record { from = File; stretch = in_file file }
  unfolding full_name
  in_file_lem e = rw e

  pub name_in_file : (name : List ℕ)
      → HeldInFile file name ↔ (((full_name file text).from ≡ File) × (full_name_part file text ≡ name))
  unfolding full_name_part part_of name_by
  name_in_file name = (there, back)
    where
      there : HeldInFile file name → ((full_name file text).from ≡ File) × (full_name_part file text ≡ name)
      there h =
          let k = held_in_file file name h in
          (ap (λ (x : Name). x.from) (in_file_lem k.0), rw (in_file_lem k.0) k.1)

      known : (other : List ℕ) → HeldInFile file other → full_name_part file text ≡ name → HeldInFile file name
      known other h e =
          let k = held_in_file file other h in
          let same : other ≡ name = sym k.1 ∙ (rw (in_file_lem k.0) at e) in
          rw same at h

      never_file : (o : Outcome) → (name_by o form text).from ≡ File → ⊥
      never_file passed e = text_file e
      never_file (refused n p) e = nowhere_file e

      by_file : (b : Bool) → is_empty (in_file file) ≡ b → (full_name file text).from ≡ File → full_name_part file text ≡ name
          → HeldInFile file name
      by_file true q e f = absurd (never_file read (rw (in_text_lem q) at e))
      by_file false q e f = let h = file_holds file octets q in known h.0 h.1 f

      back : ((full_name file text).from ≡ File) × (full_name_part file text ≡ name) → HeldInFile file name
      back h = by_file (is_empty (in_file file)) refl h.0 h.1

  -- no name is in the file exactly where its stretch is empty
  none_held : is_empty (in_file file) ≡ true → (name : List ℕ) → HeldInFile file name → ⊥
  none_held e name h = false≢true (sym (held_in_file file name h).0 ∙ e)

  held_none : ((name : List ℕ) → HeldInFile file name → ⊥) → is_empty (in_file file) ≡ true
  held_none none = go (is_empty (in_file file)) refl
    where
      go : (b : Bool) → is_empty (in_file file) ≡ b → is_empty (in_file file) ≡ true
      go true q = q
      go false q = let h = file_holds file octets q in absurd (none h.0 h.1)

  -- where it is not in the file, no name is
  not_file : ((full_name file text).from ≡ File → ⊥) → is_empty (in_file file) ≡ true
  not_file other = go (is_empty (in_file file)) refl
    where
      go : (b : Bool) → is_empty (in_file file) ≡ b → is_empty (in_file file) ≡ true
      go true q = q
      go false q = absurd (other (ap (λ (x : Name). x.from) (in_file_lem q)))

  by_text : (o : Outcome) → (name_by o form text).from ≡ Text → o ≡ passed
  unfolding name_by
  by_text passed e = refl
  by_text (refused n p) e = absurd (nowhere_text e)

  by_none : (o : Outcome) → (name_by o form text).from ≡ Nowhere → o ≡ passed → ⊥
  unfolding name_by
  by_none passed e f = nowhere_text (sym e)
  by_none (refused n p) e f = refused_not_passed f

  none_by : (o : Outcome) → (o ≡ passed → ⊥) → name_by o form text ≡ record { from = Nowhere; stretch = nothing }
  unfolding name_by
  none_by passed h = absurd (h refl)
  none_by (refused n p) h = refl

  pub name_in_text : ((full_name file text).from ≡ Text)
      ↔ (((name : List ℕ) → HeldInFile file name → ⊥) × ((read_text Alone text).outcome ≡ passed))
  unfolding name_by
  name_in_text = (there, back)
    where
      there : (full_name file text).from ≡ Text
          → ((name : List ℕ) → HeldInFile file name → ⊥) × ((read_text Alone text).outcome ≡ passed)
      there e =
          let empty = not_file (λ f. text_file (sym e ∙ f)) in
          (none_held empty, by_text read (rw (in_text_lem empty) at e))

      back : ((name : List ℕ) → HeldInFile file name → ⊥) × ((read_text Alone text).outcome ≡ passed)
          → (full_name file text).from ≡ Text
      back h = rw (in_text_lem (held_none h.0), h.1)

  pub name_nowhere : ((full_name file text).from ≡ Nowhere)
      ↔ (((name : List ℕ) → HeldInFile file name → ⊥) × ((read_text Alone text).outcome ≡ passed → ⊥))
  name_nowhere = (there, back)
    where
      there : (full_name file text).from ≡ Nowhere
          → ((name : List ℕ) → HeldInFile file name → ⊥) × ((read_text Alone text).outcome ≡ passed → ⊥)
      there e =
          let empty = not_file (λ f. nowhere_file (sym e ∙ f)) in
          (none_held empty, by_none read (rw (in_text_lem empty) at e))

      back : ((name : List ℕ) → HeldInFile file name → ⊥) × ((read_text Alone text).outcome ≡ passed → ⊥)
          → (full_name file text).from ≡ Nowhere
      back h = rw (in_text_lem (held_none h.0), none_by read h.1)

  -- "its name without trailing fillers"
  pub text_name : (full_name file text).from ≡ Text → full_name_part file text ≡ trimmed (field form part.name text)
  unfolding full_name_part part_of name_by name_at cut trimmed field
  text_name e =
      let h = name_in_text.0 e in
      let at = start form part.name in
      let n = trimmed_length (field form part.name text) in
      let gap : at + n - at ≡ n = omega arith in
      let l = length-take (width form part.name) (drop at text) in
      let short : n ≤ width form part.name = omega (arith, trimmed_le (field form part.name text), l) in
      rw (in_text_lem (held_none h.0), h.1, gap) (sym (take-take n (width form part.name) (drop at text) short))

  pub no_name : (full_name file text).from ≡ Nowhere → ((full_name file text).stretch ≡ nothing) × (full_name_part file text ≡ [])
  unfolding full_name_part part_of
  no_name e =
      let h = name_nowhere.0 e in
      let all = in_text_lem (held_none h.0) ∙ none_by read h.1 in
      (rw all, rw all)

-- What a C host may rely on, of what the two calls promise that group 11 and the text are lent to (specs/Promised).
use Prim.Native.Nat.{ℕ, ◌+◌, ◌≤◌}
use mathlib.Core.Path.{◌≡◌, ap, sym, ◌∙◌}
use mathlib.Core.Logic.{◌↔◌}
use mathlib.Core.List.{List}
use lib.ListN.{length, take, drop}
use Rattle.refusal.specs.Numbers.{Why}
use Rattle.refusal.specs.Outcome.{passed}
use Rattle.zone.specs.declared.form.Source.TheVariants.{Alone}
use Rattle.zone.specs.Part as part
use Rattle.zone.specs.Form.{field}
use Rattle.zone.specs.Record.{trimmed}
use Rattle.text.specs.Read.{read_text}
use Rattle.details.specs.Details.{read_detail}
use Rattle.full_name.specs.FullName.{full_name_part}
use Rattle.border.specs.declared.received.DetailInC.{DetailInC}
use Rattle.border.specs.declared.received.NameInC.{NameInC}
use Rattle.border.specs.Answer.{not_refused, refused_in_c}
use Rattle.border.specs.Calls.{stretch_in_c}
use Rattle.border.specs.Details.{detail_in_c}
use Rattle.text_theorems.specs.Ordered.{FirstFailing}
use Rattle.detail_theorems.specs.Named.{Named, Right, group_octets, stretch_of}
use Rattle.detail_theorems.specs.DetailChecks.{group_checks}
use Rattle.detail_theorems.specs.NameHeld.{HeldInFile}
use Rattle.detail_theorems.proofs.FullName.{name_in_text, text_name}
use Rattle.demands.specs.InC.{range_in_c}
use Rattle.demands.specs.Promised.{ReadsDetail, FindsName}
use Rattle.demands.proofs.DetailInC.{octets_detailed, detail_stretch, detail_refused, detail_in_range}
use Rattle.demands.proofs.NameInC.{name_octets, name_in_range, name_from_file, name_from_text, name_from_none}

-- ---- a detail

module _ (s : List ℕ) (asked : ℕ) (r : DetailInC) (call : ReadsDetail s asked r) where
  -- 0: these octets are a list and the elements that it names, in its order
  pub read_detail_exactly : (r.answer.number ≡ 0) ↔ ((ns : List Named) × Right ns × (s ≡ group_octets ns))
  read_detail_exactly = rw call.answers (octets_detailed s asked call.octets)

  -- of these, where the one stands that is asked for
  pub read_detail_told : (ns : List Named) → Right ns → s ≡ group_octets ns
      → r ≡ record { answer = not_refused 0; stretch = stretch_in_c (stretch_of asked ns) }
  read_detail_told ns right e =
      call.answers ∙ (ap (λ (l : List ℕ). detail_in_c (read_detail l asked)) e ∙ detail_stretch ns right asked)

  pub read_detail_refused : (why : Why) (p : ℕ) → FirstFailing (group_checks s) why p
      → r ≡ record { answer = refused_in_c why p; stretch = record { start = 0; length = 0 } }
  read_detail_refused why p h = call.answers ∙ detail_refused s asked why p h

  -- what is told stands in the file, whatever the answer is
  pub read_detail_within : r.stretch.start + r.stretch.length ≤ length s
  read_detail_within = rw call.answers (detail_in_range s asked)

-- ---- a name

module _ (file text : List ℕ) (r : NameInC) (call : FindsName file text r) where
  -- the octets that C finds
  abbrev found : List ℕ
  found = take r.stretch.length (drop r.stretch.start (range_in_c r.from file text))

  found_part : found ≡ full_name_part file text
  found_part = rw call.answers (name_octets file text)

  pub full_name_of_file : (name : List ℕ) → ((r.from ≡ 1) × (found ≡ name)) ↔ HeldInFile file name
  full_name_of_file name = (
    λ h. (name_from_file file text call.file_octets name).0 (rw call.answers at h.0, sym found_part ∙ h.1),
    λ h. let k = (name_from_file file text call.file_octets name).1 h in (rw call.answers k.0, found_part ∙ k.1),
  )

  pub full_name_of_text : (r.from ≡ 2)
      ↔ (((name : List ℕ) → HeldInFile file name → ⊥) × ((read_text Alone text).outcome ≡ passed))
  full_name_of_text = rw call.answers (name_from_text file text call.file_octets)

  -- "its name without trailing fillers"
  pub full_name_in_text : r.from ≡ 2 → found ≡ trimmed (field (read_text Alone text).kept.form part.name text)
  full_name_in_text e =
      found_part ∙ text_name file text call.file_octets
      ((name_in_text file text call.file_octets).1 (full_name_of_text.0 e))

  pub full_name_of_none : (r.from ≡ 0)
      ↔ (((name : List ℕ) → HeldInFile file name → ⊥) × ((read_text Alone text).outcome ≡ passed → ⊥))
  full_name_of_none = rw call.answers (name_from_none file text call.file_octets)

  pub full_name_within : r.stretch.start + r.stretch.length ≤ length (range_in_c r.from file text)
  full_name_within = rw call.answers (name_in_range file text)

-- Where a name and the issuer's own data end, in their room and in the text.
use Rattle.std.specs.Prelude.{Option, Some, None}
use Prim.Native.Nat.{ℕ, ◌+◌, ◌-◌, ◌≤◌}
use mathlib.Core.Path.{◌≡◌, refl, ap, sym, ◌∙◌}
use mathlib.Core.List.{List}
use native.Mathlib.Omega.{arith}
use lib.ListN.{length, drop, length-take, length-drop}
use Rattle.refusal.specs.Outcome.{Outcome, passed, refused}
use Rattle.refusal.proofs.Outcomes.{refused_not_passed}
use Rattle.zone.specs.declared.form.Form.{Form}
use Rattle.zone.specs.declared.form.Source.{Source}
use Rattle.zone.specs.Part.{Part, name}
use Rattle.zone.specs.Form.{form_of, start, width, field, own_part}
use Rattle.zone.specs.Record.{trimmed, trimmed_length, padded, holding}
use Rattle.zone.specs.Rooms.{name_room, own_room}
use Rattle.zone.proofs.Own.{own_room_lem}
use Rattle.zone.proofs.Padded.{padded_spare, padded_trimmed, trimmed_le, trimmed_length_lem}
use Rattle.zone.proofs.Trimmed.{trimmed_fillers}
use Rattle.zone.proofs.FormTold.{by_told}
use Rattle.zone.proofs.Widths.{within, name_room_lem}
use Rattle.text_digits.specs.Number.{span_of}
use Rattle.text.specs.Order.{verdict_by}
use Rattle.text.specs.Read.{Answer, own_in, in_text, record_by, answered, read_by, read_text}

-- what has room for it is as long there as in the text
ends : (room : ℕ) (s : List ℕ) → length s ≤ room → trimmed_length (padded room (trimmed s)) ≡ length (trimmed s)
ends room s short =
    ap trimmed_length (padded_trimmed room s ∙ padded_spare room s short)
    ∙ (trimmed_fillers s (room - length s) ∙ sym (trimmed_length_lem s))

field_most : (f : Form) (x : Part) (t : List ℕ) → length (field f x t) ≤ width f x
unfolding field
field_most f x t = omega (arith, length-take (width f x) (drop (start f x) t))

pub name_ends : (f : Form) (t : List ℕ)
    → trimmed_length (padded name_room (trimmed (field f name t))) ≡ length (trimmed (field f name t))
name_ends f t = ends name_room (field f name t) (omega (arith, field_most f name t, name_room_lem f))

pub own_within : (f : Form) (t : List ℕ) (n : ℕ) → length (own_in f t n) ≤ own_room
unfolding own_in
own_within f t n =
    rw length-drop (omega (arith, field_most f (own_part f) t, own_room_lem f))

pub own_ends : (f : Form) (t : List ℕ) (n : ℕ)
    → trimmed_length (padded own_room (trimmed (own_in f t n))) ≡ length (trimmed (own_in f t n))
own_ends f t n = ends own_room (own_in f t n) (own_within f t n)

-- ---- the name of an accepted text is as long in its record as where it stands

NameKept : Answer → List ℕ → Type 0
NameKept a t = a.kept.name_len ≡ trimmed_length (field a.kept.form name t)

kept_by : (m : Option Form) (t : List ℕ) → (read_by m t).outcome ≡ passed → NameKept (read_by m t) t
unfolding NameKept read_by answered record_by holding in_text
kept_by (Some f) t h = go (verdict_by f t (span_of f t)) h
  where
    go : (o : Outcome) → (answered o (record_by f t (span_of f t))).outcome ≡ passed
        → NameKept (answered o (record_by f t (span_of f t))) t
    go passed e = trimmed_length_lem (field f name t)
    go (refused n p) e = absurd (refused_not_passed e)
kept_by None t h = absurd (refused_not_passed h)

pub name_kept : (source : Source) (t : List ℕ) → (read_text source t).outcome ≡ passed
    → (read_text source t).kept.name_len ≡ trimmed_length (field (read_text source t).kept.form name t)
unfolding read_text NameKept
name_kept source t h = kept_by (form_of source t) t h

-- and ends within it
within_by : (m : Option Form) (source : Source) (t : List ℕ) → form_of source t ≡ m → (read_by m t).outcome ≡ passed
    → start (read_by m t).kept.form name + trimmed_length (field (read_by m t).kept.form name t) ≤ length t
unfolding read_by answered record_by holding
within_by (Some f) source t told h = go (verdict_by f t (span_of f t)) h
  where
    go : (o : Outcome) → (answered o (record_by f t (span_of f t))).outcome ≡ passed
        → start (answered o (record_by f t (span_of f t))).kept.form name
        + trimmed_length (field (answered o (record_by f t (span_of f t))).kept.form name t) ≤ length t
    go passed e = omega (arith, trimmed_le (field f name t), field_most f name t, within f name, (by_told source f t told).1)
    go (refused n p) e = absurd (refused_not_passed e)
within_by None source t told h = absurd (refused_not_passed h)

pub name_within : (source : Source) (t : List ℕ) → (read_text source t).outcome ≡ passed
    → start (read_text source t).kept.form name + trimmed_length (field (read_text source t).kept.form name t) ≤ length t
unfolding read_text
name_within source t h = within_by (form_of source t) source t refl h

pub name_short : (f : Form) (t : List ℕ) → trimmed_length (field f name t) ≤ name_room
name_short f t = omega (arith, trimmed_le (field f name t), field_most f name t, name_room_lem f)

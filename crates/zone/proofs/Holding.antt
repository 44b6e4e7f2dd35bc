-- What a record holds, and the record of what is held: the plain fields by one law for all of them, number, name and the issuer's
-- own data beside it.
use Prim.Native.Nat.{ℕ}
use mathlib.Core.Path.{◌≡◌, refl, ◌∙◌}
use mathlib.Core.Bool.{Bool, true, false≢true}
use mathlib.Core.List.{List, [], ◌∷◌}
use native.Mathlib.Omega.{arith}
use lib.Dec.{ltb}
use lib.ListN.{length, take, get_or}
use lib.Seq.{length-take-le}
use Rattle.zone.specs.declared.form.Form.{Form}
use Rattle.zone.specs.declared.record.Record.{Record}
use Rattle.zone.specs.Alphabet.{filler}
use Rattle.zone.specs.Part.{Part, code, state, number, nationality, birth, sex, expiry, name, own}
use Rattle.zone.specs.Rows.{all_rows}
use Rattle.zone.specs.Form.{width}
use Rattle.zone.specs.Rooms.{code_room, state_room, date_room, number_room, name_room, own_room}
use Rattle.zone.specs.Record.{trimmed_length, trimmed, padded, plain, plain_room, is_plain, held_rows, held, holding}
use Rattle.zone.proofs.Padded.{padded_exact, padded_trimmed, trimmed_le}
use Rattle.zone.proofs.Parts.{in_rows_lem, ◌and◌, all_said, rows_then, rows_pass, pass_rows}
use Rattle.zone.proofs.Widths.{fixed}

-- what holds of each plain field, with its room
pub each_plain : (P : Part → ℕ → Type 0) → P code code_room → P state state_room → P nationality state_room → P birth date_room
    → P sex 1 → P expiry date_room → (x : Part) → is_plain x ≡ true → P x (plain_room x)
unfolding plain
each_plain P a b c d e f = in_rows_lem (λ x n. ltb 0 n ≡ true → P x n) 0 plain (λ x h. absurd (false≢true h))
    ((λ h. a) and (λ h. b) and (λ h. c) and (λ h. d) and (λ h. e) and (λ h. f) and all_said)

pub plain_passes : (p : Part → ℕ → Bool) → all_rows p plain ≡ true → (x : Part) → is_plain x ≡ true → p x (plain_room x) ≡ true
plain_passes p e = in_rows_lem (λ x n. ltb 0 n ≡ true → p x n ≡ true) 0 plain (λ x h. absurd (false≢true h))
    (rows_then plain (λ x n e h. e) (rows_pass p plain e))

pub passes_plain : (p : Part → ℕ → Bool) → ((x : Part) → is_plain x ≡ true → p x (plain_room x) ≡ true) → all_rows p plain ≡ true
unfolding plain
passes_plain p h = pass_rows p plain
    (h code refl and h state refl and h nationality refl and h birth refl and h sex refl and h expiry refl and all_said)

-- in every form it is as wide as its room
pub plain_width : (f : Form) (x : Part) → is_plain x ≡ true → width f x ≡ plain_room x
plain_width f =
    let w = fixed f in
    each_plain (λ x n. width f x ≡ n) w.code_width w.state_width w.nationality_width w.birth_width w.sex_width
    w.expiry_width

one_held : (s : List ℕ) → length s ≡ 1 → get_or s 0 filler ∷ [] ≡ s
one_held [] e = absurd (omega arith)
one_held (c ∷ []) e = refl
one_held (c ∷ (d ∷ s)) e = absurd (omega arith)

-- what fits its room is held
pub held_plain : (f : Form) (g : Part → List ℕ) (x : Part) → is_plain x ≡ true → length (g x) ≡ plain_room x
    → held (holding f g) x ≡ g x
unfolding held_rows holding
held_plain f g = each_plain (λ x n. length (g x) ≡ n → held (holding f g) x ≡ g x) (padded_exact code_room (g code))
    (padded_exact state_room (g state)) (padded_exact state_room (g nationality)) (padded_exact date_room (g birth))
    (one_held (g sex)) (padded_exact date_room (g expiry))

-- two records that hold the same are the same
pub same_holding : (f : Form) (g h : Part → List ℕ) → ((x : Part) → is_plain x ≡ true → g x ≡ h x) → g number ≡ h number
    → g name ≡ h name → g own ≡ h own → holding f g ≡ holding f h
unfolding holding plain
same_holding f g h p n m o = λ i. record {
  form = f;
  code = padded code_room (p code refl i);
  state = padded state_room (p state refl i);
  number = padded number_room (n i);
  number_len = length (n i);
  nationality = padded state_room (p nationality refl i);
  birth = padded date_room (p birth refl i);
  sex = get_or (p sex refl i) 0 filler;
  expiry = padded date_room (p expiry refl i);
  name = padded name_room (m i);
  name_len = length (m i);
  own = padded own_room (o i);
  own_len = length (o i);
}

-- a list whose trailing fillers are dropped, and filled up again
refilled : (k n : ℕ) (s : List ℕ) → length s ≡ k → trimmed_length s ≡ n → padded k (take n s) ≡ s
unfolding trimmed
refilled k n s l e = (rw e at (padded_trimmed k s)) ∙ padded_exact k s l

pub held_length : (n : ℕ) (s : List ℕ) → trimmed_length s ≡ n → length (take n s) ≡ n
held_length n s e = length-take-le n s (omega (arith, trimmed_le s))

-- a record with fillers in every place past its lengths is that of what it holds
pub holding_held : (r : Record) → ((x : Part) → is_plain x ≡ true → length (held r x) ≡ plain_room x)
    → length r.number ≡ number_room → trimmed_length r.number ≡ r.number_len
    → length r.name ≡ name_room → trimmed_length r.name ≡ r.name_len
    → length r.own ≡ own_room → trimmed_length r.own ≡ r.own_len → holding r.form (held r) ≡ r
unfolding holding held_rows plain
holding_held r p l n k m long own_ends = λ i. record {
  form = r.form;
  code = padded_exact code_room r.code (p code refl) i;
  state = padded_exact state_room r.state (p state refl) i;
  number = refilled number_room r.number_len r.number l n i;
  number_len = held_length r.number_len r.number n i;
  nationality = padded_exact state_room r.nationality (p nationality refl) i;
  birth = padded_exact date_room r.birth (p birth refl) i;
  sex = r.sex;
  expiry = padded_exact date_room r.expiry (p expiry refl) i;
  name = refilled name_room r.name_len r.name k m i;
  name_len = held_length r.name_len r.name m i;
  own = refilled own_room r.own_len r.own long own_ends i;
  own_len = held_length r.own_len r.own own_ends i;
}

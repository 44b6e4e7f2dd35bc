-- The issuer's own data in a text: where they stand in the text of a record, and that they are read back.
use Prim.Native.Nat.{ℕ, ◌-◌, ◌≤◌}
use mathlib.Core.Path.{◌≡◌, refl, ap, sym, ◌∙◌}
use mathlib.Core.Bool.{Bool, true, false, cond, ◌||◌}
use mathlib.Core.Logic.{◌⊎◌, inl, inr}
use mathlib.Core.List.{List, [], ◌++◌}
use native.Mathlib.Omega.{arith}
use borrow.Author.Rules.{rules}
use lib.ListN.{length, drop, replicate, length-take}
use lib.Seq.{take_all, take_at, drop_at}
use Rattle.lent.proofs.Bools.{or_either}
use Rattle.zone.specs.declared.form.Form.{Form}
use Rattle.zone.specs.declared.record.Record.{Record}
use Rattle.zone.specs.Alphabet.{filler}
use Rattle.zone.specs.Part.{optional, optional2, personal, personal_check, own, composite, same}
use Rattle.zone.specs.Form.{row, forms, width, width_in, has, field, own_part, before_own}
use Rattle.zone.specs.Record.{trimmed_length, trimmed, padded, held_rows, held}
use Rattle.zone.proofs.AllForms.{all_forms}
use Rattle.zone.proofs.Own.{own_parts}
use Rattle.zone.proofs.Padded.{padded_append, padded_spare}
use Rattle.zone.proofs.Parts.{same_one}
use Rattle.zone.proofs.Trimmed.{trimmed_fillers, trimmed_twice}
use Rattle.digit.specs.Check.{digit_of}
use Rattle.digit_theorems.proofs.Joined.{fillers_digit_behind}
use Rattle.sound.proofs.SoundRecord.{Sound}
use Rattle.text.specs.Read.{own_in}
use Rattle.writing.specs.Text.{in_optional, own_at, given_rows, given, text_of}
use Rattle.writing.proofs.Further.{before_length, own_place_lem}
use Rattle.text_theorems.proofs.TextOfRecord.{shown}

-- ---- lists with fillers behind them

-- what stands behind another list
behind : (n : ℕ) (a b : List ℕ) → length a ≤ n → drop (length a) (padded n (a ++ b)) ≡ padded (n - length a) b
behind n a b h =
    ap (drop (length a)) (padded_append n a b ∙ ap (λ (l : List ℕ). l ++ padded (n - length a) b) (take_all n a h))
    ∙ drop_at a (padded (n - length a) b) (length a) refl

-- and that it is found again, where it ends in no filler
again : (n : ℕ) (b : List ℕ) → length b ≤ n → trimmed_length b ≡ length b → trimmed (padded n b) ≡ b
unfolding trimmed
again n b h e =
    let z : List ℕ = replicate (n - length b) filler in
    let long : trimmed_length (b ++ z) ≡ length b = trimmed_fillers b (n - length b) ∙ e in
    rw (padded_spare n b h, long) (take_at b z (length b) refl)

-- ---- their part

-- a form with a personal check has them there
pub personal_own : (f : Form) → cond (has f personal_check) (same (own_part f) personal ≡ true) Unit
unfolding row width width_in forms
personal_own = all_forms (λ f. cond (has f personal_check) (same (own_part f) personal ≡ true) Unit) (search rules)

module _ (r : Record) (s : Sound r) where
  abbrev f : Form
  f = r.form

  -- what stands before them in their part
  abbrev ahead : List ℕ
  ahead = cond (same (own_part f) optional) (in_optional r) []

  ahead_length : before_own f r.number_len ≡ length ahead
  unfolding before_own
  ahead_length = go (same (own_part f) optional) refl
    where
      go : (b : Bool) → same (own_part f) optional ≡ b
          → before_own f r.number_len ≡ length (cond {A = List ℕ} b (in_optional r) [])
      go true e = before_length r s e
      go false e = rw e

  -- what their part is given
  own_given : given r (own_part f) ≡ ahead ++ held r own
  unfolding given_rows own_at
  own_given = go (or_either _ _ (own_parts f))
    where
      go : (same (own_part f) optional ≡ true) ⊎ (same (own_part f) optional2 || same (own_part f) personal ≡ true)
          → given r (own_part f) ≡ ahead ++ held r own
      go (inl k) = rw (same_one (own_part f) optional k)
      go (inr k) = other (or_either _ _ k)
        where
          other : (same (own_part f) optional2 ≡ true) ⊎ (same (own_part f) personal ≡ true)
              → given r (own_part f) ≡ ahead ++ held r own
          other (inl k) = rw (same_one (own_part f) optional2 k)
          other (inr k) = rw (same_one (own_part f) personal k)

  not_composite : same (own_part f) composite ≡ false
  not_composite = go (or_either _ _ (own_parts f))
    where
      go : (same (own_part f) optional ≡ true) ⊎ (same (own_part f) optional2 || same (own_part f) personal ≡ true)
          → same (own_part f) composite ≡ false
      go (inl k) = rw (same_one (own_part f) optional k)
      go (inr k) = other (or_either _ _ k)
        where
          other : (same (own_part f) optional2 ≡ true) ⊎ (same (own_part f) personal ≡ true) → same (own_part f) composite ≡ false
          other (inl k) = rw (same_one (own_part f) optional2 k)
          other (inr k) = rw (same_one (own_part f) personal k)

  own_shown : field f (own_part f) (text_of r) ≡ padded (width f (own_part f)) (ahead ++ held r own)
  own_shown = shown r (own_part f) not_composite ∙ ap (padded (width f (own_part f))) own_given

  own_ends : trimmed_length (held r own) ≡ length (held r own)
  unfolding held_rows
  own_ends =
      let cut = rw s.own_ends at (trimmed_twice r.own) in
      cut ∙ sym (length-take r.own_len r.own ∙ omega (arith, s.own_most, s.own_places))

  -- they are read as they were written
  pub own_back : trimmed (own_in f (text_of r) r.number_len) ≡ held r own
  unfolding own_in
  own_back =
      let w = width f (own_part f) in
      let place = rw ahead_length at (own_place_lem r s) in
      rw (ahead_length, own_shown, behind w ahead (held r own) (omega (arith, place)))
      (again (w - length ahead) (held r own) (omega (arith, place)) own_ends)

  -- the personal check runs over the field as over them
  pub personal_shown : has f personal_check ≡ true → digit_of (held r own) ≡ digit_of (field f personal (text_of r))
  personal_shown h =
      let told : same (own_part f) personal ≡ true = rw h at (personal_own f) in
      let one = same_one (own_part f) personal told in
      let w = width f personal in
      let alone : field f personal (text_of r) ≡ padded w (held r own) = rw one at own_shown in
      let fits : length (held r own) ≤ w = omega (arith, rw one at (own_place_lem r s)) in
      sym (ap digit_of (alone ∙ padded_spare w (held r own) fits) ∙ fillers_digit_behind (held r own) (w - length (held r own)))

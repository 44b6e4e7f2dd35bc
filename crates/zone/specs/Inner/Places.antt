-- Where each part begins and how wide it is, as the row of constants that the code has of it.
use Rattle.std.specs.Prelude.{ℕ, ◌+◌, ◌-◌, cond, List, [], ◌∷◌, leb}
use Rattle.zone.specs.declared.form.Form.{Form}
use Rattle.zone.specs.declared.form.Places.{Places}
use Rattle.zone.specs.Part.{code, state, number, number_check, optional, birth, birth_check, sex, expiry, expiry_check}
use Rattle.zone.specs.Part.{nationality, optional2, composite, name, personal, personal_check}
use Rattle.zone.specs.Form.{row, start, width, total, longest, own_part, Piece, pieces}

-- how many characters of pieces stand before a place
unfoldable pub before : ℕ → List Piece → ℕ
before place [] = 0
before place (s ∷ ss) = cond (leb s.width (place - s.start)) s.width (place - s.start) + before place ss

unfoldable pub places_of : Form → Places
places_of f = record {
  kind = (row f).kind;
  entered = (row f).entered;
  text_length = total f;
  code = start f code;
  state = start f state;
  number = start f number;
  number_longest = longest f;
  number_check = start f number_check;
  optional = start f optional;
  optional_width = width f optional;
  optional_before = before (start f optional) (pieces f);
  «optional2» = start f optional2;
  optional2_width = width f optional2;
  nationality = start f nationality;
  birth = start f birth;
  birth_check = start f birth_check;
  sex = start f sex;
  expiry = start f expiry;
  expiry_check = start f expiry_check;
  personal = start f personal;
  personal_width = width f personal;
  personal_check = start f personal_check;
  personal_check_width = width f personal_check;
  composite = start f composite;
  composite_width = width f composite;
  name = start f name;
  name_width = width f name;
  own = start f (own_part f);
  own_width = width f (own_part f);
}

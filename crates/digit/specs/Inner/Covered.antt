-- What the composite covers, part by part.
use Rattle.std.specs.Prelude.{ℕ, ◌+◌, ◌*◌, ◌%◌, List, get_or}
use Rattle.zone.specs.Part.{number, number_check, optional, optional2, birth, birth_check, expiry, expiry_check, personal}
use Rattle.zone.specs.Part.{personal_check}
use Rattle.zone.specs.Form.{start, field, pieces}
use Rattle.zone.specs.Inner.Places.{before}
use Rattle.zone.specs.declared.form.Form.{Form}
use Rattle.digit.specs.Check.{value, weight, sum_from}
use Rattle.digit.specs.Inner.Thirds.{thirds_of, weighed}
use Rattle.digit.specs.declared.composite.Sums.{Sums}

-- what it covers beside the fields that have a digit of their own, each with the weights where it stands: the optional fields and
-- the personal number's digit,
unfoldable pub beside_sum : Form → List ℕ → ℕ
beside_sum f t =
    sum_from (before (start f optional) (pieces f)) (field f optional t)
    + sum_from 39 (field f optional2 t) + sum_from 38 (field f personal_check t)

-- and the digits of number and dates
unfoldable pub others_sum : Form → List ℕ → ℕ
others_sum f t =
    value (get_or t (start f number_check) 0) * weight 9 + value (get_or t (start f birth_check) 0) * weight 16
    + value (get_or t (start f expiry_check) 0) * weight 23 + beside_sum f t

unfoldable pub sums_of : Form → List ℕ → Sums
sums_of f t = record {
  number = thirds_of (field f number t);
  birth = thirds_of (field f birth t);
  expiry = thirds_of (field f expiry t);
  personal = thirds_of (field f personal t);
  others = others_sum f t % 10;
}

-- all of it
unfoldable pub composite_sum : Sums → ℕ
composite_sum s =
    weighed s.number 0 + (weighed s.birth 10 + weighed s.expiry 17) + weighed s.personal 24 + s.others

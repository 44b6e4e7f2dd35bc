-- The numbers that C receives of a call that writes are those of its answer.
use mathlib.Core.Path.{◌≡◌, refl}
use Rattle.refusal.specs.Length.{Length, written, refused}
use Rattle.border.specs.Answer.{in_c}
use Rattle.run_theorems.specs.Expected.{number_told, value_told}

pub number_in_c : (l : Length) → (in_c l).number ≡ number_told l
unfolding in_c
number_in_c (written n) = refl
number_in_c (refused why p) = refl

pub value_in_c : (l : Length) → (in_c l).value ≡ value_told l
unfolding in_c
value_in_c (written n) = refl
value_in_c (refused why p) = refl

-- What goes on from a reading may as well go on behind all that was read: to read what holds a text is to find the text, and then
-- to read it.
use mathlib.Core.Path.{◌≡◌, refl}
use Rattle.refusal.specs.Outcome.{Outcome, passed, refused}
use Rattle.tlv.specs.Read.{Read, value, refusal, and_then, checked}

pub then_behind : {A B C : Type 0} (m : Read A) (f : A → Read B) (g : B → Read C) (h : A → Read C)
    → ((a : A) → m ≡ value a → h a ≡ and_then (f a) g) → and_then m h ≡ and_then (and_then m f) g
unfolding and_then
then_behind (value a) f g h e = e a refl
then_behind (refusal n p) f g h e = refl

pub checked_behind : {A B : Type 0} (o : Outcome) (m : Read A) (g : A → Read B) (k : Read B) → k ≡ and_then m g
    → checked o k ≡ and_then (checked o m) g
unfolding checked and_then
checked_behind passed m g k e = e
checked_behind (refused n p) m g k e = refl

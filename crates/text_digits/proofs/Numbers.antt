-- What a number leaves in its room: the nine and the further characters, whatever the span. And where a long number ends.
use Prim.Native.Nat.{ℕ, ◌-◌, ◌<◌}
use mathlib.Core.Path.{◌≡◌, refl, ap, sym, ◌∙◌}
use mathlib.Core.List.{List, [], ◌++◌, append-nil}
use lib.ListN.{take}
use mathlib.Core.Bool.{Bool, true, false, cond, ◌&&◌}
use mathlib.Core.Logic.{◌⊎◌, inl, inr}
use native.Mathlib.Omega.{arith}
use borrow.Author.Tests.{ltb-true}
use lib.Dec.{ltb, leb}
use Rattle.zone.specs.Alphabet.{first_filler}
use Rattle.zone.specs.Part.{number, optional}
use Rattle.zone.specs.Form.{field, width}
use Rattle.zone.specs.Record.{padded, trimmed}
use Rattle.zone.specs.Rooms.{number_room}
use Rattle.zone.specs.declared.form.Form.{Form}
use Rattle.zone.proofs.Padded.{padded_trimmed}
use Rattle.text_digits.specs.Number.{number_by, is_long, cut_at, span_of}
use Rattle.text_digits.specs.Inner.Spans.{further_in}
use Rattle.text_digits.specs.declared.number.Span.{Span}
use Rattle.text_digits.specs.declared.number.Span.TheVariants.{Short, Long, Bad}

alone : (s : List ℕ) → padded number_room (s ++ []) ≡ padded number_room (trimmed s)
alone s = ap (padded number_room) (append-nil s) ∙ sym (padded_trimmed number_room s)

pub number_room_lem : (f : Form) (t : List ℕ) (span : Span)
    → padded number_room (field f number t ++ take (further_in span) (field f optional t))
    ≡ padded number_room (number_by f t span)
unfolding further_in number_by
number_room_lem f t Short = alone (field f number t)
number_room_lem f t (Long further) = refl
number_room_lem f t Bad = alone (field f number t)

-- the further characters and their digit stand within the optional field
pub span_within : (f : Form) (t : List ℕ) (n : ℕ) → span_of f t ≡ Long n → n < width f optional
unfolding span_of cut_at
span_within f t n e = go (is_long f t) (leb 2 k) (ltb k w) refl e
  where
    k : ℕ
    k = first_filler (field f optional t)

    w : ℕ
    w = width f optional

    never : {x : Span} → x ≡ Long n → (x ≡ Short) ⊎ (x ≡ Bad) → n < w
    never p (inl q) = absurd (let z : ◌≡◌ {A = ℕ} 0 1 = cc in omega arith)
    never p (inr q) = absurd (let z : ◌≡◌ {A = ℕ} 0 1 = cc in omega arith)

    go : (l a b : Bool) → ltb k w ≡ b → cond l (cond (a && b) (Long (k - 1)) Bad) Short ≡ Long n → n < w
    go false a b p q = never q (inl refl)
    go true false b p q = never q (inr refl)
    go true true false p q = never q (inr refl)
    go true true true p q = let same : k - 1 ≡ n = cc in omega (arith, ltb-true k w p)

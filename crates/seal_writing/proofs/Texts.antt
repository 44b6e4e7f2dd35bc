-- The text of a record of TD2: it is written exactly where the record is sound, and fills the 72 places of its range.
use Prim.Native.Nat.{ℕ}
use mathlib.Core.Path.{◌≡◌, refl, ap, sym, ◌∙◌}
use mathlib.Core.Bool.{Bool, true, false, cond, false≢true}
use mathlib.Core.List.{List, [], append-nil}
use lib.ListN.{length, drop}
use lib.Seq.{drop-length}
use Rattle.refusal.specs.Outcome.{unless}
use Rattle.refusal.specs.Output.{write_answer, write_out}
use Rattle.zone.specs.Form.{total, row}
use Rattle.zone.specs.declared.form.Form.{Form}
use Rattle.zone.specs.declared.form.Form.TheVariants.{Td1, Td2, Td3, MrvA, MrvB}
use Rattle.zone.specs.declared.record.Record.{Record}
use Rattle.sound.specs.Sound.{is_sound}
use Rattle.writing.specs.Text.{text_of}
use Rattle.writing.specs.Answer.{text_answer, text_out}
use Rattle.seal_writing.specs.Seal.{is_td2, is_fit}
use Rattle.seal_writing.specs.Inner.Fit.{is_written}

pub td2_total : (f : Form) → is_td2 f ≡ true → total f ≡ 72
unfolding is_td2 row
td2_total Td1 e = absurd (false≢true e)
td2_total Td2 e = refl
td2_total Td3 e = absurd (false≢true e)
td2_total MrvA e = absurd (false≢true e)
td2_total MrvB e = absurd (false≢true e)

pub text_written : (r : Record) (out : List ℕ) → is_td2 r.form ≡ true → length out ≡ 72
    → (is_written (text_answer r out) ≡ is_fit r) × (text_out r out ≡ cond (is_fit r) (text_of r) out)
unfolding text_answer text_out is_fit is_written
text_written r out td2 wide = rw (td2_total r.form td2, td2) (go (is_sound r))
  where
    none : drop 72 out ≡ []
    none = ap (λ (n : ℕ). drop n out) (sym wide) ∙ drop-length out

    go : (b : Bool)
        → (is_written (write_answer (unless b 17 0) 72 out) ≡ b)
        × (write_out (unless b 17 0) 72 (text_of r) out ≡ cond b (text_of r) out)
    go true = (rw wide, rw (wide, none) (append-nil (text_of r)))
    go false = (refl, refl)

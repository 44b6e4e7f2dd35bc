-- A range's front, lent to be filled with a text, and what the range holds when it comes back.
use Prim.Native.Nat.{ℕ, ◌≤◌}
use mathlib.Core.Path.{◌≡◌, sym, ◌∙◌}
use mathlib.Core.Bool.{true}
use mathlib.Core.List.{List, ◌++◌}
use native.Mathlib.Omega.{arith}
use lib.ListN.{length, take, drop, length-take}
use Rattle.zone.specs.Form.{total}
use Rattle.zone.specs.declared.record.Record.{Record}
use Rattle.writing.specs.Text.{text_of}
use Rattle.writing.specs.Inner.Puts.{put_all}
use Rattle.sound.specs.Sound.{is_sound}
use Rattle.sound.proofs.SoundRecord.{taken_apart}
use Rattle.writing.proofs.Puts.{put_text}

pub front_length : (n : ℕ) (s : List ℕ) → n ≤ length s → n ≡ length (take n s)
front_length n s h = rw length-take (omega arith)

pub fitted : (r : Record) (n : ℕ) (out back : List ℕ) → is_sound r ≡ true → n ≡ total r.form → n ≤ length out
    → back ≡ put_all r (take n out) → back ++ drop n out ≡ text_of r ++ drop (total r.form) out
fitted r n out back sound e h b =
    rw (b, put_text r (take n out) (sym (front_length n out h) ∙ e) (taken_apart r sound), e)

-- The range is as long as the text, or longer; what lies behind the text stays.
use mathlib.Core.Path.{sym, ◌∙◌}
use borrow.Author.Tests.{le-leb, lt-leb}
use Rattle.writing.specs.Answer.{text_answer, text_out}
use Rattle.sound.proofs.SoundRecord.{taken_apart}
use Rattle.writing.proofs.Further.{number_within}
use Rattle.writing.proofs.Fitted.{front_length, fitted}
use Rattle.writing.proofs.write.write.Goals as goal

pub slice_bounds-put_all-end-then-n-out : goal.slice_bounds-put_all-end-then-n-out
slice_bounds-put_all-end-then-n-out c = front_length c.text_length-n.result
    c.args.out.now c.if-n-out.true

pub put_all-requires : goal.put_all-requires
put_all-requires c =
    let r = c.args.r in
    let sound = sym c.is_sound.ensures ∙ c.if-is_sound.true in
    number_within r (taken_apart r sound)

pub returns-then-n-out : goal.returns-then-n-out
unfolding text_answer text_out
returns-then-n-out c =
    let a = c.args in
    let n = c.text_length-n in
    let h = c.if-n-out.true in
    let sound = sym c.is_sound.ensures
    ∙ c.if-is_sound.true in
    let fits = rw n.ensures at (le-leb _ _ h) in
    let put = c.put_all in
    record {
      answer = rw (sound, fits, n.ensures);
      output = rw (sound, fits) (fitted a.r n.result a.out.now put.new.text sound n.ensures h put.ensures);
    }

pub returns-else-n-out : goal.returns-else-n-out
unfolding text_answer text_out
returns-else-n-out c =
    let sound = sym c.is_sound.ensures ∙ c.if-is_sound.true in
    let e = rw c.text_length-n.ensures at (lt-leb _ _ c.if-n-out.false) in
    record { answer = rw (sound, e); output = rw (sound, e) }

pub returns-else-is_sound : goal.returns-else-is_sound
unfolding text_answer text_out
returns-else-is_sound c =
    let e = sym c.is_sound.ensures ∙ c.if-is_sound.false in
    record { answer = rw e; output = rw e }

-- What was read is entered under a house: document 01, "What the server lends and gets".
use Rattle.std.specs.Prelude.{ℕ, List, ◌&&◌}
use Rattle.refusal.specs.Outcome.{Outcome, or_else, unless}
use Rattle.refusal.specs.Length.{Length}
use Rattle.refusal.specs.Output.{write_answer, write_out}
use Rattle.zone.specs.declared.record.Record.{Record}
use Rattle.sound.specs.Sound.{is_sound}
use Rattle.entry.specs.Entry.{size, is_house, entry_of}

-- a call that reads is given a house too and tests 17, then 16, after all the reader's refusals
unfoldable pub entered_answer : Outcome → ℕ → Record → List ℕ → Length
entered_answer o house r out = write_answer (or_else o (unless (is_house house && is_sound r) 17 0)) (size r) out

unfoldable pub entered_out : Outcome → ℕ → Record → List ℕ → List ℕ
entered_out o house r out =
    write_out (or_else o (unless (is_house house && is_sound r) 17 0)) (size r) (entry_of house r) out

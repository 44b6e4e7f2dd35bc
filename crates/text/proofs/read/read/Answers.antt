-- The form by the text, and the text by the form.
use borrow.Author.Rules.{rules}
use Rattle.text.specs.Read.{read_text, read_by, answered, answer_of}
use Rattle.text.proofs.read.read.Goals as goal

pub returns-in-Some : goal.returns-in-Some
unfolding read_text
returns-in-Some c = search rules

pub returns-in-None : goal.returns-in-None
unfolding read_text read_by answered answer_of
returns-in-None c = search rules

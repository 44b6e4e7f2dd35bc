-- What passed is handed out; a refusal stands at the feature.
use borrow.Author.Rules.{rules}
use Rattle.text.specs.Read as text
use Rattle.tlv.specs.Read.{checked}
use Rattle.seal.specs.Seal.{answer_of, answer_by, placed, with_text}
use Rattle.seal.proofs.read.with_text.Goals as goal

pub returns-in-Ok : goal.returns-in-Ok
unfolding answer_of answer_by placed with_text checked text.answer_of
returns-in-Ok c = search rules

pub returns-in-Err : goal.returns-in-Err
unfolding answer_of answer_by placed with_text checked text.answer_of
returns-in-Err c = search rules

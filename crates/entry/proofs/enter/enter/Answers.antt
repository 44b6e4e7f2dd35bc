-- What passed is entered; a refusal is handed on.
use borrow.Author.Rules.{rules}
use Rattle.entry.specs.Entry.{entry_answer, entry_out}
use Rattle.entry.specs.Entered.{entered_answer, entered_out}
use Rattle.entry.proofs.enter.enter.Goals as goal

pub returns-in_err-read-clause-result_value : goal.returns-in_err-read-clause-result_value
unfolding entered_answer
returns-in_err-read-clause-result_value c = search rules

pub returns-in_err-read-clause-out_after : goal.returns-in_err-read-clause-out_after
unfolding entered_out
returns-in_err-read-clause-out_after c = search rules

pub returns-clause-result_value : goal.returns-clause-result_value
unfolding entered_answer entry_answer
returns-clause-result_value c = search rules

pub returns-clause-out_after : goal.returns-clause-out_after
unfolding entered_out entry_out
returns-clause-out_after c = search rules

-- One line for each answer.
use Rattle.fit.proofs.Answering.{refusal_line, yes_line, no_line}
use Rattle.fit.proofs.write_answer.Goals as goal

pub returns-in-Err : goal.returns-in-Err
returns-in-Err c = search refusal_line

pub returns-in-Ok-true : goal.returns-in-Ok-true
returns-in-Ok-true c = search yes_line

pub returns-in-Ok-false : goal.returns-in-Ok-false
returns-in-Ok-false c = search no_line

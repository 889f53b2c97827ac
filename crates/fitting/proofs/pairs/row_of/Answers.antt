-- Each kind has its row.
use Rattle.fitting.proofs.NodeRows.{row_var, row_lambda, body_rows, row_joined}
use Rattle.fitting.proofs.pairs.row_of.Goals as goal

pub joined_row-requires : goal.joined_row-requires
joined_row-requires c = search body_rows

pub returns-in-3 : goal.returns-in-3
returns-in-3 c = search row_var

pub returns-in-5 : goal.returns-in-5
returns-in-5 c = search row_lambda

pub returns-in_default : goal.returns-in_default
returns-in_default c = search row_joined

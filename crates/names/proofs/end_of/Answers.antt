-- `end_of` is the smaller of the name's end and the table's.
use native.Mathlib.Omega.{arith}
use Rattle.names.specs.Inner.{name_end}
use Rattle.names.proofs.end_of.Goals as goal

pub returns-then-at-table : goal.returns-then-at-table
unfolding name_end
returns-then-at-table c = omega arith

pub returns-then-table-start : goal.returns-then-table-start
unfolding name_end
returns-then-table-start c = omega arith

pub returns : goal.returns
unfolding name_end
returns c = omega arith

use Rattle.node_filter.proofs.Filters.{first_missing, second_missing, third_tells}
use Rattle.node_filter.proofs.may_have.Goals as goal

pub returns-then-not-test_row : goal.returns-then-not-test_row
returns-then-not-test_row c = search first_missing

pub returns-then-not-test_row-2 : goal.returns-then-not-test_row-2
returns-then-not-test_row-2 c = search second_missing

pub returns : goal.returns
returns c = search third_tells

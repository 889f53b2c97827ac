-- The tests of the kind.
use Rattle.fix_values.proofs.Passing.{body_list, body_set, body_other}
use Rattle.fix_values.proofs.body_good.Goals as goal

pub returns-then-kind-eq-LIST : goal.returns-then-kind-eq-LIST
returns-then-kind-eq-LIST c = search body_list

pub returns-then-kind-eq-SET : goal.returns-then-kind-eq-SET
returns-then-kind-eq-SET c = search body_set

pub returns : goal.returns
returns c = search body_other

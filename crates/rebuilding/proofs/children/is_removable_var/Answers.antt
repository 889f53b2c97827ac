-- A variable is removable exactly if its bit is set.
use Rattle.walks.proofs.Marks.{root_small, root_fits}
use Rattle.rebuilding.proofs.Dropping.{other_kind, its_bit}
use Rattle.rebuilding.proofs.children.is_removable_var.Goals as goal

pub returns-then-kind_at-ne-TY_VAR : goal.returns-then-kind_at-ne-TY_VAR
returns-then-kind_at-ne-TY_VAR c = search other_kind

pub overflow_cast-m : goal.overflow_cast-m
overflow_cast-m c = search root_fits

pub test-requires : goal.test-requires
test-requires c = search root_small

pub returns : goal.returns
returns c = search its_bit

-- `field_order` compares the children where the names leave it open.
use Rattle.std.proofs.Common.{rules}
use Rattle.std.specs.Ordering.{nat_cmp}
use Rattle.words.specs.Words.{child}
use Rattle.node_order.proofs.Answers.{then_run}
use Rattle.node_order.proofs.Parts.{field_told}
use Rattle.node_order.proofs.field_order.Goals as goal

pub returns : goal.returns
returns c = field_told _ _ (then_run c.cmp.result {p = nat_cmp (child c.args.v) (child c.args.w)} c.then_with.ensures (λ P. search rules)) c.cmp.ensures c.field_name.ensures c.field_name-2.ensures

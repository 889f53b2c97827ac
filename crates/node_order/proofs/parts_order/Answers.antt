-- `parts_order` goes on to the next key where the ones before leave it open.
use Rattle.std.proofs.Common.{rules}
use Rattle.node_order.proofs.Answers.{then_run}
use Rattle.node_order.proofs.Parts.{keys_told}
use Rattle.node_order.proofs.parts_order.Goals as goal

pub returns : goal.returns
returns c =
    keys_told c.args.g.word c.args.h.word c.args.e.now c.args.f.now c.args.s.now c.args.t.now c.cmp.ensures c.kind.ensures c.kind-2.ensures
    (then_run c.cmp.result c.then_with.ensures (λ P. search rules))
    (then_run c.then_with.result c.then_with-2.ensures (λ P. search rules))
    (then_run c.then_with-2.result c.then_with-3.ensures (λ P. search rules))
    (then_run c.then_with-3.result c.then_with-4.ensures (λ P. search rules))

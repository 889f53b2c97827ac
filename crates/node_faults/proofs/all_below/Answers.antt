-- `all_below` tests each word.
use Rattle.std.proofs.Common.{rules}
use Rattle.std.proofs.lemmas.Iterator.{YieldsList-from_slice}
use Rattle.std.proofs.lemmas.Iterator.Search.{all_from_yields_List}
use borrow.Author.Tests.{tests}
use lib.Dec.{ltb}
use Rattle.node_faults.proofs.Quick.{children_clean}
use Rattle.node_faults.proofs.all_below.Goals as goal

pub returns-then-nodes-le4096 : goal.returns-then-nodes-le4096
returns-then-nodes-le4096 c =
    children_clean c.args.words.now c.if-nodes-le4096.true
    (all_from_yields_List (λ w. ltb w c.args.nodes) _ _ _ c.all.ensures.ran (YieldsList-from_slice c.args.words.now cc) (λ x b q k. search (rules, tests)))

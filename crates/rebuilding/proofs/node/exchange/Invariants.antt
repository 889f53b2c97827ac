-- The invariant: i children are exchanged.
use Rattle.rebuilding.proofs.Exchanging.{Exchanges}
use Rattle.rebuilding.proofs.node.exchange.Given as goal

abbrev pub invariant-loop-i : goal.invariant-loop-i
invariant-loop-i l = Exchanges l.node l.body l.items l.count l.new l.i

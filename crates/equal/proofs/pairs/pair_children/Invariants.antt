-- The invariant: i children have the one beside them as their partner, and nothing else is new.
use Rattle.equal.proofs.Pairing.{Giving}
use Rattle.equal.proofs.pairs.pair_children.Given as goal

abbrev pub invariant-loop-i : goal.invariant-loop-i
invariant-loop-i l = Giving l.a l.b l.word-items l.right l.initial.partners l.partners l.i

-- The invariant: no node passed is reachable and carries a name that is lacking.
use Rattle.importing.proofs.Searching.{Searching}
use Rattle.importing.proofs.lacking.lacks_name.Given as goal

abbrev pub invariant-loop-n : goal.invariant-loop-n
invariant-loop-n l = Searching l.names l.words l.starts l.c l.root l.met l.n

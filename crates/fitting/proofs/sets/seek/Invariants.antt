-- The invariant: the fields passed have names below.
use Rattle.fitting.proofs.Seeking.{Sought}
use Rattle.fitting.proofs.sets.seek.Given as goal

abbrev pub invariant-loop-i : goal.invariant-loop-i
invariant-loop-i l = Sought l.fields l.from l.name l.i

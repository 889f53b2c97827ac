-- The invariant: what was written, then the bytes from i on, are all of it.
use Rattle.appending.proofs.SpelledNames.{Escaping}
use Rattle.appending.proofs.spelled.write_escaped.Given as goal

abbrev pub invariant-loop-i : goal.invariant-loop-i
invariant-loop-i l = Escaping l.name l.initial.text l.count l.text l.end l.i

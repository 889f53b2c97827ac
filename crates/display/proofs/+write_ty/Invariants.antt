-- The measure is the node's number. The loop's invariant is `Printing`.
use Rattle.display.proofs.Printings.{Printing}
use Rattle.display.proofs.+write_ty.Given as goal

abbrev pub decreases-write_ty : goal.decreases-write_ty
decreases-write_ty l = l.n

abbrev pub invariant-loop-i : goal.invariant-loop-i
invariant-loop-i l = Printing l.spelling l.table l.words l.starts l.c l.n l.node l.children l.initial.text l.initial.end l.text l.end l.i

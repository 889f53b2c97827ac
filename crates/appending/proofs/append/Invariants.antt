-- The invariant: i bytes are copied, and no other byte is changed.
use Rattle.appending.proofs.Appending.{Copying}
use Rattle.appending.proofs.append.Given as goal

abbrev pub invariant-loop-i : goal.invariant-loop-i
invariant-loop-i l = Copying l.initial.text l.count l.bytes l.text l.i

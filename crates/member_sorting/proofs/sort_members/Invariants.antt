-- The invariant: the first i members are sorted.
use Rattle.member_sorting.proofs.Inserting.{Going}
use Rattle.member_sorting.proofs.sort_members.Given as goal

abbrev pub invariant-loop-i : goal.invariant-loop-i
invariant-loop-i l = Going l.words l.starts l.c l.members l.initial.items l.items l.i

-- The invariant: m comes before none of the first i members.
use Rattle.member_sorting.proofs.Placing.{Passed}
use Rattle.member_sorting.proofs.place_of.Given as goal

abbrev pub invariant-loop-i : goal.invariant-loop-i
invariant-loop-i l = Passed l.words l.starts l.c l.m l.members l.i

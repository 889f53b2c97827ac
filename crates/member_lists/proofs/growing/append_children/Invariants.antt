-- The invariant: i children are appended.
use Rattle.member_lists.proofs.Copying.{Appended}
use Rattle.member_lists.proofs.growing.append_children.Given as goal

abbrev pub invariant-loop-word : goal.invariant-loop-word
invariant-loop-word l = Appended l.node l.body l.initial.items l.count l.initial.met l.items l.held l.met l.word-index

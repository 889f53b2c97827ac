-- The invariant: of the children passed, those that remain are listed.
use Rattle.rebuilding.proofs.Copying.{Copied}
use Rattle.rebuilding.proofs.children.remaining.Given as goal

abbrev pub invariant-loop-word : goal.invariant-loop-word
invariant-loop-word l = Copied l.words l.starts l.c l.n l.removable l.keep l.body l.items l.count l.word-index

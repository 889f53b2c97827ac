-- 1 and 2 are the verdict's; what follows them is that of `intern_words`.
use Rattle.types.proofs.Refusals.{passed}
use Rattle.arena.proofs.Answers.{host_refused, host_under, host_words}
use Rattle.arena.proofs.intern.Goals as goal

pub returns-in_err-count : goal.returns-in_err-count
returns-in_err-count c = rw (passed _ _ c.from_residual.ensures.1) (host_refused _ _ _ _ _ c.in_err-count.ensures)

pub intern_words-requires : goal.intern_words-requires
intern_words-requires c = search (host_under, c.in_ok-count.ensures)

pub returns : goal.returns
returns c = search (host_words, c.in_ok-count.ensures)

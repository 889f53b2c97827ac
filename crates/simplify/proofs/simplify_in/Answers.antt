-- The first pass, and then those after it.
use mathlib.Core.Path.{refl}
use borrow.Author.Rules.{rules}
use Rattle.types.proofs.Refusals.{passed}
use Rattle.simplify.proofs.Sequences.{first_refused, first_room, first_done}
use Rattle.simplify.proofs.simplify_in.Goals as goal

pub returns-in_err-m : goal.returns-in_err-m
returns-in_err-m c = rw (passed _ _ c.from_residual.ensures.1) (first_refused c.requires c.in_err-m.ensures.simplifies_once refl)

pub more_passes-requires-clause-pass_room : goal.more_passes-requires-clause-pass_room
more_passes-requires-clause-pass_room c = first_room c.requires c.in_ok-m.ensures.simplifies_once refl

pub more_passes-requires-clause-covers_lent : goal.more_passes-requires-clause-covers_lent
more_passes-requires-clause-covers_lent c = c.in_ok-m.ensures.covers_after.is _ _ refl

pub returns : goal.returns
returns c = first_done c.requires c.in_ok-m.ensures.simplifies_once refl c.more_passes.ensures (search rules) (search rules)

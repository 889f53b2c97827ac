-- The target is cleared before the copy, and after a refusal again.
use mathlib.Core.Path.{refl}
use Rattle.copying.proofs.CachedCopies.{none_cached}
use Rattle.compact.proofs.Clearing.{cleared_ready, cleared_done, cleared_stopped}
use borrow.Author.Rules.{rules}
use Rattle.compact.proofs.compact_cleared.Goals as goal

pub compact_inner-copied-requires-clause-ready : goal.compact_inner-copied-requires-clause-ready
compact_inner-copied-requires-clause-ready c = cleared_ready c.requires c.take_back_nodes.ensures.words c.take_back_nodes.ensures.starts

pub compact_inner-copied-requires-clause-all_cached : goal.compact_inner-copied-requires-clause-all_cached
compact_inner-copied-requires-clause-all_cached c = none_cached refl

pub returns-in-Err : goal.returns-in-Err
returns-in-Err c = cleared_stopped c.requires c.take_back_nodes.ensures.words c.take_back_nodes.ensures.starts c.compact_inner-copied.ensures.does c.in-Err.is c.take_back_nodes-in-Err.ensures.words c.take_back_nodes-in-Err.ensures.starts (search rules) (search rules)

pub returns-in-Ok : goal.returns-in-Ok
returns-in-Ok c = cleared_done c.requires c.take_back_nodes.ensures.words c.take_back_nodes.ensures.starts c.compact_inner-copied.ensures.does c.in-Ok.is (search rules) (search rules)

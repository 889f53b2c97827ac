use Rattle.node_filter.proofs.Filters.{near_sought, near_stored, covers_kept}
use Rattle.node_filter.proofs.intern_near.Goals as goal

pub is_there-requires : goal.is_there-requires
is_there-requires c = search near_sought

pub returns-then-is_there-clause-interns : goal.returns-then-is_there-clause-interns
returns-then-is_there-clause-interns c = search near_stored

pub returns-then-is_there-clause-covers_after : goal.returns-then-is_there-clause-covers_after
returns-then-is_there-clause-covers_after c = search covers_kept

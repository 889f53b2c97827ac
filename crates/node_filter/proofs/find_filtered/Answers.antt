use Rattle.node_filter.proofs.Filters.{unset}
use Rattle.node_filter.proofs.find_filtered.Goals as goal

pub returns-then-not-may_have : goal.returns-then-not-may_have
returns-then-not-may_have c = search unset

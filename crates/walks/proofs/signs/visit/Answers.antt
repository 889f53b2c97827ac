-- A node that stands at the sign has its children put in; of another nothing is.
use Rattle.walks.proofs.Visiting.{marking_small}
use Rattle.walks.proofs.signs.visit.Goals as goal

pub stands-there-requires : goal.stands-there-requires
stands-there-requires c = search marking_small

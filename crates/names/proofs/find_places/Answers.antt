use Rattle.names.specs.Inner.{name_end}
use Rattle.names.proofs.Places.{placing_start, placing_room, placing_more, placing_end}
use borrow.Author.Rules.{rules}
use Rattle.names.proofs.find_places.Goals as goal

pub loop-at-init : goal.loop-at-init
loop-at-init c = search placing_start

pub offset_bounds-places-k : goal.offset_bounds-places-k
offset_bounds-places-k c = search (placing_room, rules)

pub bounds-places-k : goal.bounds-places-k
bounds-places-k c = search placing_room

pub overflow_add-k : goal.overflow_add-k
overflow_add-k c = search (placing_room, rules)

pub loop-at-smaller : goal.loop-at-smaller
unfolding name_end
loop-at-smaller c = search rules

pub loop-at-preserved : goal.loop-at-preserved
loop-at-preserved c = search placing_more

pub returns : goal.returns
returns c = search placing_end

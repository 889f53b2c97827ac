-- There is a field at the place, and it has the name.
use Rattle.fitting.proofs.Seeking.{named_past, named_inside}
use Rattle.fitting.proofs.sets.named_at.Goals as goal

pub returns-then-i-fields : goal.returns-then-i-fields
returns-then-i-fields c = search named_past

pub returns : goal.returns
returns c = search named_inside

-- 12 before the run.
use Rattle.import.proofs.Running.{no_names, map_long, root_range, lacking_refused, named_ready, named_done}
use Rattle.import.proofs.import_in.Goals as goal

pub match_names-requires : goal.match_names-requires
match_names-requires c = search no_names

pub lacks_name-requires-clause-in_range : goal.lacks_name-requires-clause-in_range
lacks_name-requires-clause-in_range c = search root_range

pub lacks_name-requires-clause-names_len : goal.lacks_name-requires-clause-names_len
lacks_name-requires-clause-names_len c = search map_long

pub returns-then-lacks_name : goal.returns-then-lacks_name
returns-then-lacks_name c = search lacking_refused

pub import_named-requires : goal.import_named-requires
import_named-requires c = named_ready c.requires.sides c.match_names.ensures c.wide.ensures c.lacks_name.ensures c.requires.root_lt_nodes c.if-lacks_name.false

pub returns : goal.returns
returns c = search named_done

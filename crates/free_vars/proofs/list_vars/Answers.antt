-- From nothing marked and nothing listed.
use Rattle.free_vars.proofs.Replies.{collect_start, vars_said}
use Rattle.free_vars.proofs.list_vars.Goals as goal

pub collect-requires : goal.collect-requires
collect-requires c = search collect_start

pub returns : goal.returns
returns c = search vars_said

-- Memory within its limits is sound exactly where its nodes are.
use Rattle.soundness.proofs.Checks.{not_within, is_within}
use Rattle.soundness.proofs.sound.Goals as goal

pub returns-then-not-within : goal.returns-then-not-within
returns-then-not-within c = search not_within

pub nodes_sound-requires : goal.nodes_sound-requires
nodes_sound-requires c = search is_within

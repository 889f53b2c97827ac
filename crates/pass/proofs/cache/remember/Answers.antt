-- The entry of the setting is written.
use Rattle.pass.proofs.Remembering.{remembered_kept, remembered_dropped}
use Rattle.pass.proofs.cache.remember.Goals as goal

pub returns-then-keep : goal.returns-then-keep
returns-then-keep c = search remembered_kept

pub returns-else-keep : goal.returns-else-keep
returns-else-keep c = search remembered_dropped

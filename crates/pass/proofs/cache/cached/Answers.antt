-- The entry of the setting.
use Rattle.pass.proofs.Remembering.{kept_entry, dropped_entry}
use Rattle.pass.proofs.cache.cached.Goals as goal

pub returns-then-keep : goal.returns-then-keep
returns-then-keep c = search kept_entry

pub returns : goal.returns
returns c = search dropped_entry

use Rattle.types.proofs.Shorts.{pushed}
use Rattle.types.proofs.short_text.ShortText.push.Goals as goal

pub returns : goal.returns
returns c = search pushed

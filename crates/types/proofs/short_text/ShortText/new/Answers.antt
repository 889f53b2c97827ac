use mathlib.Core.Path.{refl}
use Rattle.types.specs.Short.{short_text}
use Rattle.types.proofs.short_text.ShortText.new.Goals as goal

pub returns : goal.returns
unfolding short_text
returns c = refl

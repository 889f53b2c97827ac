-- The pieces of a refusal, one behind another.
use Rattle.sheet_format.proofs.Lines.{refusal_written}
use Rattle.sheet_format.proofs.write_refusal.Goals as goal

pub returns : goal.returns
returns c = search refusal_written

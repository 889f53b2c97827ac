use Rattle.member_sorting.proofs.Gaps.{gap_opened}
use Rattle.member_sorting.proofs.open_gap.Goals as goal

pub returns : goal.returns
returns c = gap_opened c.requires c.copy_within.ensures.len c.copy_within.ensures.after

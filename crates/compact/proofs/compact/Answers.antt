-- The verdict's refusals; what follows them is that of `compact_lent`.
use mathlib.Core.Path.{sym, ◌∙◌}
use Rattle.soundness.proofs.Verdicts.{lent_known}
use Rattle.compact.proofs.Hosts.{host_refused, host_done}
use Rattle.compact.proofs.compact.Goals as goal

pub returns-in-Err : goal.returns-in-Err
returns-in-Err c = host_refused _ _ _ _ _ _ _ _ (sym c.in-Err.is ∙ c.judge.ensures)

pub compact_lent-requires : goal.compact_lent-requires
compact_lent-requires c = lent_known _ _ _ _ (sym c.in-Ok.is ∙ c.judge.ensures)

pub returns-in-Ok : goal.returns-in-Ok
returns-in-Ok c = host_done _ _ _ _ _ _ _ _ (sym c.in-Ok.is ∙ c.judge.ensures) c.compact_lent.ensures

-- A refusal, a node with room for what it brings, and a 65th member.
use mathlib.Core.Path.{refl, ap, ◌∙◌}
use Rattle.std.specs.Result.{result_from_control_flow}
use Rattle.types.proofs.Refusals.{passed}
use Rattle.set_op_lists.proofs.Bringing.{passes_on, bring_ready, brings_more, brings_full}
use Rattle.set_op_lists.proofs.bring.Goals as goal

pub returns-in_err-m : goal.returns-in_err-m
returns-in_err-m c = rw (passed _ _ c.from_residual.ensures.1) (passes_on c.requires (c.branch-m.ensures ∙ ap result_from_control_flow c.in_err-m.is))

pub append_brought-requires : goal.append_brought-requires
append_brought-requires c = bring_ready c.requires (c.branch-m.ensures ∙ ap result_from_control_flow c.in_ok-m.is)

pub returns-in_err-next : goal.returns-in_err-next
returns-in_err-next c = rw (passed _ _ c.from_residual-in_err-next.ensures.1) (brings_full c.requires (c.branch-m.ensures ∙ ap result_from_control_flow c.in_ok-m.is) c.in_err-next.ensures refl)

pub returns : goal.returns
returns c = brings_more c.requires (c.branch-m.ensures ∙ ap result_from_control_flow c.in_ok-m.is) c.in_ok-next.ensures refl

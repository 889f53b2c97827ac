use mathlib.Core.Logic.{inl, inr}
use Rattle.node_order.proofs.Comparing.{level_start, level_told, level_more, level_done}
use Rattle.node_order.proofs.fields_order.Goals as goal

pub loop-v-init : goal.loop-v-init
loop-v-init c = let h = c.zip-v-items.ensures.first in let k = c.zip-v-items.ensures.second.0 in level_start (cc) (cc)

pub returns-then-is_ne : goal.returns-then-is_ne
returns-then-is_ne c = search (level_told, c.in-Some.ensures.steps)

pub loop-v-preserved : goal.loop-v-preserved
loop-v-preserved c = search (level_more, c.in-Some.ensures.steps)

pub returns : goal.returns
returns c = level_done c.loop-v.invariant (elim c.in-None.ensures.steps [ inl h ↦ inl h.1.0 | inr h ↦ inr h.1.0 ]) c.cmp.ensures

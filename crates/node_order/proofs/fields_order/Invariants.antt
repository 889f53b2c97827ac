-- `fields_order` answers by the first difference. The loop's invariant: the words passed are alike, so the rests stand as the lists do.
use Rattle.node_order.specs.Inner.{field_order}
use Rattle.node_order.proofs.Comparing.{Level}
use Rattle.node_order.proofs.fields_order.Given as goal

abbrev pub invariant-loop-v : goal.invariant-loop-v
invariant-loop-v l = Level field_order l.e l.f l.v-iterator.a.rest.now l.v-iterator.b.rest.now

use Rattle.primitive.specs.Primitive.{is_addable}
use Rattle.types.proofs.Flags.{flags}
use Rattle.primitive.proofs.PrimitiveTy.is_addable.Goals as goal

pub returns-then-is_number : goal.returns-then-is_number
unfolding is_addable
returns-then-is_number c = search flags

pub returns-then-self-eq-STRING : goal.returns-then-self-eq-STRING
unfolding is_addable
returns-then-self-eq-STRING c = search flags

pub returns-else-self-eq-STRING : goal.returns-else-self-eq-STRING
unfolding is_addable
returns-else-self-eq-STRING c = search flags

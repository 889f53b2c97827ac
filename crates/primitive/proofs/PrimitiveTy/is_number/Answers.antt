use Rattle.primitive.specs.Primitive.{is_number}
use Rattle.types.proofs.Flags.{flags}
use Rattle.primitive.proofs.PrimitiveTy.is_number.Goals as goal

pub returns-then-is_float : goal.returns-then-is_float
unfolding is_number
returns-then-is_float c = search flags

pub returns-then-self-eq-INT : goal.returns-then-self-eq-INT
unfolding is_number
returns-then-self-eq-INT c = search flags

pub returns-else-self-eq-INT : goal.returns-else-self-eq-INT
unfolding is_number
returns-else-self-eq-INT c = search flags

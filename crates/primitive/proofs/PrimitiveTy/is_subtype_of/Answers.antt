use Rattle.primitive.specs.Primitive.{is_subtype_of}
use Rattle.types.proofs.Flags.{flags}
use Rattle.primitive.proofs.PrimitiveTy.is_subtype_of.Goals as goal

pub returns-then-self-eq-INT : goal.returns-then-self-eq-INT
unfolding is_subtype_of
returns-then-self-eq-INT c = search flags

pub returns-else-self-eq-INT : goal.returns-else-self-eq-INT
unfolding is_subtype_of
returns-else-self-eq-INT c = search flags

pub returns-else-other-eq-NUMBER : goal.returns-else-other-eq-NUMBER
unfolding is_subtype_of
returns-else-other-eq-NUMBER c = search flags

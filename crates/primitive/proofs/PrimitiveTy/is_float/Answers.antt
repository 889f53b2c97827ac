use borrow.Author.Rules.{rules}
use Rattle.primitive.specs.Primitive.{is_float}
use Rattle.primitive.proofs.PrimitiveTy.is_float.Goals as goal

pub returns : goal.returns
unfolding is_float
returns c = search rules

-- Each arm has the text of its code; where none has the code it is no primitive's.
use Rattle.types.specs.Short.{short_text}
use Rattle.primitive.specs.Primitive.{primitive_text}
use Rattle.primitive.proofs.Primitives.{text_of, no_text}
use Rattle.primitive.proofs.PrimitiveTy.text.Goals as goal

pub returns-in-0 : goal.returns-in-0
unfolding short_text primitive_text
returns-in-0 c = search text_of

pub returns-in-1 : goal.returns-in-1
unfolding short_text primitive_text
returns-in-1 c = search text_of

pub returns-in-2 : goal.returns-in-2
unfolding short_text primitive_text
returns-in-2 c = search text_of

pub returns-in-3 : goal.returns-in-3
unfolding short_text primitive_text
returns-in-3 c = search text_of

pub returns-in-4 : goal.returns-in-4
unfolding short_text primitive_text
returns-in-4 c = search text_of

pub returns-in-5 : goal.returns-in-5
unfolding short_text primitive_text
returns-in-5 c = search text_of

pub returns-in-6 : goal.returns-in-6
unfolding short_text primitive_text
returns-in-6 c = search text_of

pub returns-in-7 : goal.returns-in-7
unfolding short_text primitive_text
returns-in-7 c = search text_of

pub returns-in_default : goal.returns-in_default
returns-in_default c = search no_text

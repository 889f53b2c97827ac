-- The front of its bytes.
use Rattle.types.specs.Inner.{text}
use lib.Seq.{length-take-le}
use borrow.Author.Rules.{rules}
use Rattle.text_writing.proofs.pieces.write_short.Goals as goal

pub slice_bounds-append-end : goal.slice_bounds-append-end
slice_bounds-append-end c = search (length-take-le, rules)

pub returns : goal.returns
unfolding text
returns c = search rules

-- Both counts lie within their arrays.
use borrow.Author.Rules.{rules}
use lib.Seq.{length-take-le}
use Rattle.sheet.proofs.main.Goals as goal

pub slice_bounds-write_all-end : goal.slice_bounds-write_all-end
slice_bounds-write_all-end c = search (length-take-le, rules)

-- What may begin an identifier, or one of the bytes besides.
use Rattle.spelling.proofs.Identifiers.{continues_told}
use Rattle.spelling.proofs.continues.Goals as goal

pub returns : goal.returns
returns c = continues_told c.args.byte c.begins.ensures c.is_ascii_digit.ensures.value

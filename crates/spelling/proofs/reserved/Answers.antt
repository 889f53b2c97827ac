-- By the length of the name: the words of that length, one after another.
use Rattle.spelling.proofs.Words.{two_bytes, three_bytes, four_bytes, six_bytes, seven_bytes, other_bytes}
use Rattle.spelling.proofs.reserved.Goals as goal

pub returns-in-2 : goal.returns-in-2
returns-in-2 c = search two_bytes

pub returns-in-3 : goal.returns-in-3
returns-in-3 c = search three_bytes

pub returns-in-4 : goal.returns-in-4
returns-in-4 c = search four_bytes

pub returns-in-6 : goal.returns-in-6
returns-in-6 c = search six_bytes

pub returns-in-7 : goal.returns-in-7
returns-in-7 c = search seven_bytes

pub returns-in_default : goal.returns-in_default
returns-in_default c = search other_bytes

-- The tests of `comes_next`, one after the other.
use Rattle.names.proofs.Following.{comes_cut, comes_empty, comes_long, comes_told}
use Rattle.names.proofs.comes_next.Goals as goal

pub returns-then-from-name : goal.returns-then-from-name
returns-then-from-name c = search comes_cut

pub returns-then-is_empty : goal.returns-then-is_empty
returns-then-is_empty c = search comes_empty

pub returns-then-name-gt64 : goal.returns-then-name-gt64
returns-then-name-gt64 c = search comes_long

pub returns : goal.returns
returns c = search comes_told

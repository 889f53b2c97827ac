-- The tests are the sentences.
use Rattle.fix_values.proofs.Passing.{field_tests}
use Rattle.fix_values.proofs.field_good.Goals as goal

pub returns : goal.returns
returns c = search field_tests

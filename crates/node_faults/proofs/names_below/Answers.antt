-- `names_below` tests each word.
use Rattle.std.proofs.Common.{rules}
use Rattle.std.proofs.lemmas.Iterator.{YieldsList-from_slice}
use Rattle.std.proofs.lemmas.Iterator.Search.{all_from_yields_List}
use borrow.Author.Tests.{tests}
use lib.Dec.{ltb}
use mathlib.Core.Path.{◌∙◌}
use Rattle.words.specs.Words.{field_name}
use Rattle.node_faults.proofs.Passing.{all_below}
use Rattle.node_faults.proofs.names_below.Goals as goal

pub returns : goal.returns
returns c = all_from_yields_List (λ w. ltb (field_name w) c.args.names) _ _ _ c.all.ensures.ran (YieldsList-from_slice c.args.words.now cc) (λ x b q k. search (rules, tests)) ∙ all_below c.args.names field_name c.args.words.now
